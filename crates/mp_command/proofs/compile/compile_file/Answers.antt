use Rattle.std.proofs.Common.{subst, sym}
use Rattle.mp_io.specs.Moments.{sunk}
use Rattle.mp_text.specs.File.{file_tree}
use Rattle.mp_program.specs.ProgramView.{program_view}
use Rattle.mp_command.specs.Answers.{Acts}
use Rattle.mp_command.specs.Outcome.{printed_program, program_or_rules}
use Rattle.mp_command.specs.Programs.{given}
use Rattle.mp_command.proofs.Given.{given-valid, valid-short}
use Rattle.mp_command.proofs.compile.compile_file.Goals as goal

pub print_program-requires : goal.print_program-requires
print_program-requires g c =
    let file = file_tree c.args.file.now in
    valid-short file.sig (program_view c.in-Some.program.now)
    (given-valid file.sig c.args.program c.in-Some.program c.in-Some.is c.requires.program)

pub returns-in-Some : goal.returns-in-Some
returns-in-Some g c =
    let file = file_tree c.args.file.now in
    subst (λ o. Acts (printed_program file.sig (program_or_rules file (given o)))
    (sunk g.O.Sink c.args.out.now c.print_program.new.out) c.print_program.result) (sym c.in-Some.is)
    c.print_program.ensures

pub returns-in-None : goal.returns-in-None
returns-in-None g c =
    let file = file_tree c.args.file.now in
    subst (λ o. Acts (printed_program file.sig (program_or_rules file (given o)))
    (sunk g.O.Sink c.args.out.now c.print_rules_program.new.out) c.print_rules_program.result) (sym c.in-None.is)
    c.print_rules_program.ensures
