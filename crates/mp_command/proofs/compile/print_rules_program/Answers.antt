use Rattle.std.proofs.Common.{subst}
use Rattle.mp_io.specs.Moments.{sunk}
use Rattle.mp_text.specs.File.{file_tree}
use Rattle.mp_command.specs.Answers.{Acts}
use Rattle.mp_command.specs.Outcome.{printed_program}
use Rattle.mp_command.proofs.compile.print_rules_program.Goals as goal

pub rules_program-requires : goal.rules_program-requires
rules_program-requires g c = c.requires.rules

pub returns-in-Ok : goal.returns-in-Ok
returns-in-Ok g c =
    let file = file_tree c.args.file.now in
    subst (λ p. Acts (printed_program file.sig p) (sunk g.O.Sink c.args.out.now c.print_program.new.out)
    c.print_program.result) c.in-Ok.ensures.program c.print_program.ensures
