use Rattle.std.proofs.Common.{refl, subst}
use Rattle.mp_io.specs.Moments.{shelved, sunk}
use Rattle.mp_words.specs.Requests.{asked}
use Rattle.mp_command.specs.Answers.{Answers}
use Rattle.mp_command.specs.Outcome.{IsOutcomeWith, file_limit}
use Rattle.mp_command.specs.Run.{wanted_program}
use Rattle.mp_command.proofs.Chain.{Answers-loaded, Answers-unloaded, HasCauses-unloaded}
use Rattle.mp_command.proofs.answer.answer_file.Goals as goal

pub returns-in-Ok-clause-answers : goal.returns-in-Ok-clause-answers
returns-in-Ok-clause-answers g c =
    let request = asked c.args.request in
    let wanted = wanted_program request.program in
    let first = shelved g.S.Shelf c.args.shelf.now c.load.new.shelf in
    let second = shelved g.S.Shelf c.load.new.shelf c.answer_over.new.shelf in
    let out = sunk g.O.Sink c.args.out.now c.answer_over.new.out in
    let r = c.answer_over.result in
    Answers-loaded (λ files. IsOutcomeWith files request request.program)
    (record { name = request.file; limit = file_limit }) wanted c.in-Ok.bytes.items first second
    c.in-Ok.ensures.files refl refl c.in-Ok.ensures.later c.in-Ok.ensures.loads.0 c.in-Ok.ensures.loads.1 out r
    (subst (λ bytes. Answers wanted (λ files. IsOutcomeWith files request request.program bytes) second out r)
    c.deref.ensures.value c.answer_over.ensures.answers)

pub returns-in-Err-clause-answers : goal.returns-in-Err-clause-answers
returns-in-Err-clause-answers g c =
    let request = asked c.args.request in
    let shelf = shelved g.S.Shelf c.args.shelf.now c.load.new.shelf in
    let out = sunk g.O.Sink c.args.out.now c.args.out.now in
    Answers-unloaded (λ files. IsOutcomeWith files request request.program)
    (record { name = request.file; limit = file_limit }) (wanted_program request.program) shelf out c.in-Err.ending
    c.in-Err.ensures.loads refl refl

pub returns-in-Err-clause-causes : goal.returns-in-Err-clause-causes
returns-in-Err-clause-causes g c =
    let request = asked c.args.request in
    let shelf = shelved g.S.Shelf c.args.shelf.now c.load.new.shelf in
    HasCauses-unloaded (λ files. IsOutcomeWith files request request.program)
    (record { name = request.file; limit = file_limit }) (wanted_program request.program) shelf c.in-Err.ending
    c.in-Err.ensures.loads
