use Rattle.std.proofs.Common.{subst, sym}
use Rattle.mp_text.specs.File.{file_tree}
use Rattle.mp_matches.specs.PairsListed.{IsPairsListed, named}
use Rattle.mp_program.specs.ProgramView.{program_view}
use Rattle.mp_vm.specs.ProgramList.{IsProgramList}
use Rattle.mp_command.proofs.accepted.print_named.Goals as goal

pub returns-in-Ok : goal.returns-in-Ok
returns-in-Ok g c = λ text h.
    let file = file_tree c.args.file.now in
    let p = program_view c.args.program.now in
    let runner = c.in-Ok.runner in
    c.ending.ensures _ _ (c.list_pairs.ensures text
    (subst (λ sig. IsPairsListed file (named c.args.names.now) (IsProgramList sig runner.program) c.args.limit text)
    (sym c.in-Ok.ensures.sig)
    (subst (λ q. IsPairsListed file (named c.args.names.now) (IsProgramList file.sig q) c.args.limit text)
    (sym c.in-Ok.ensures.program) h)))
