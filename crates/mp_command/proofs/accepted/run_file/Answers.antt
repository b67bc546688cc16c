use Rattle.std.proofs.Common.{◌≡◌, refl, subst, sym}
use Rattle.mp_io.specs.Moments.{sunk}
use Rattle.mp_text.specs.File.{file_tree}
use Rattle.mp_matches.specs.Listed.{lines}
use Rattle.mp_program.specs.ProgramView.{program_view}
use Rattle.mp_command.specs.Answers.{ActsAs}
use Rattle.mp_command.specs.Outcome.{IsAccepted, IsRun, finished, matched}
use Rattle.mp_command.specs.Programs.{given}
use Rattle.mp_command.specs.declared.ending.Ending.TheVariants as ending
use Rattle.mp_command.specs.declared.ending.Told.TheVariants as told
use Rattle.mp_command.proofs.Acted.{accepted-exact, accepted-listed}
use Rattle.mp_command.proofs.Chain.{ActsAs-exact, Appends-nothing}
use Rattle.mp_command.proofs.Given.{given-valid}
use Rattle.mp_command.proofs.accepted.run_file.Goals as goal

pub print_accepted-requires-clause-program : goal.print_accepted-requires-clause-program
print_accepted-requires-clause-program g c =
    given-valid (file_tree c.args.file.now).sig c.args.program c.in-Some.program c.in-Some.is c.requires.program

pub returns-in-Some : goal.returns-in-Some
returns-in-Some g c =
    let file = file_tree c.args.file.now in
    let p = program_view c.in-Some.program.now in
    let valid = given-valid file.sig c.args.program c.in-Some.program c.in-Some.is c.requires.program in
    let listed = accepted-listed file c.requires.file p valid in
    let out = sunk g.O.Sink c.args.out.now c.print_accepted.new.out in
    subst (λ o. ActsAs (IsRun file (given o)) out c.print_accepted.result) (sym c.in-Some.is)
    (ActsAs-exact (IsAccepted file p) out c.print_accepted.result (matched (lines listed.0))
    (accepted-exact file c.requires.file p valid) (c.print_accepted.ensures listed.0 listed.1))

pub returns-in-None : goal.returns-in-None
returns-in-None g c =
    let file = file_tree c.args.file.now in
    let out = sunk g.O.Sink c.args.out.now c.args.out.now in
    subst (λ o. ActsAs (IsRun file (given o)) out (ending.Told told.Done)) (sym c.in-None.is)
    (ActsAs-exact (λ o. o ≡ finished) out (ending.Told told.Done) finished (λ o. (λ e. e, λ e. e))
    (record { status = refl; line = refl; text = Appends-nothing out refl; stays = refl }))
