use Rattle.std.proofs.Common.{subst, sym}
use Rattle.mp_text.specs.File.{file_tree}
use Rattle.mp_matches.specs.PairsListed.{IsPairsListed}
use Rattle.mp_vm.specs.ProgramList.{IsProgramList}
use Rattle.mp_command.specs.Outcome.{program_names}
use Rattle.mp_command.proofs.accepted.print_rules_accepted.Goals as goal

pub rules_program-requires : goal.rules_program-requires
rules_program-requires g c = c.requires.file.rules

pub print_accepted-requires-clause-program : goal.print_accepted-requires-clause-program
print_accepted-requires-clause-program g c = c.in-Ok.ensures.valid c.requires.printable

pub returns-in-Ok : goal.returns-in-Ok
returns-in-Ok g c = λ text h.
    let file = file_tree c.args.file.now in
    c.print_accepted.ensures text
    (subst (λ p. IsPairsListed file (program_names p) (IsProgramList file.sig p) c.args.limit text)
    (sym c.in-Ok.ensures.program) h)
