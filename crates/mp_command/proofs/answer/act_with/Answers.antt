use Rattle.std.proofs.Common.{refl, sym, subst}
use Rattle.mp_io.specs.Moments.{sunk}
use Rattle.mp_text.specs.File.{file_tree}
use Rattle.mp_program.specs.ProgramView.{program_view}
use Rattle.mp_words.specs.Requests.{asked}
use Rattle.mp_command.specs.Answers.{ActsAs}
use Rattle.mp_command.specs.Outcome.{IsDoneWith}
use Rattle.mp_command.specs.Programs.{named, named_text}
use Rattle.mp_command.proofs.Acted.{acted-program, acted-unread}
use Rattle.mp_command.proofs.answer.act_with.Goals as goal

pub act-requires-in-Ok-clause-program : goal.act-requires-in-Ok-clause-program
act-requires-in-Ok-clause-program g c = (_, c.in-Ok.ensures.is)

pub returns-in-Ok : goal.returns-in-Ok
returns-in-Ok g c =
    let request = asked c.args.request in
    let file = file_tree c.args.file.now in
    let out = sunk g.O.Sink c.args.out.now c.act-in-Ok.new.out in
    subst (λ t. ActsAs (IsDoneWith request file (named t)) out c.act-in-Ok.result) (sym c.in-Some.is)
    (acted-program request file (named_text c.in-Some.text) out (program_view c.in-Ok.program) c.act-in-Ok.result
    c.in-Ok.ensures c.act-in-Ok.ensures)

pub returns-in-Err : goal.returns-in-Err
returns-in-Err g c =
    let request = asked c.args.request in
    let file = file_tree c.args.file.now in
    let out = sunk g.O.Sink c.args.out.now c.args.out.now in
    subst (λ t. ActsAs (IsDoneWith request file (named t)) out c.in-Err.ending) (sym c.in-Some.is)
    (acted-unread request file (named_text c.in-Some.text) out c.in-Err.ending c.in-Err.ensures refl refl)
