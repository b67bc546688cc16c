use Rattle.std.proofs.Common.{[], ap, refl, subst, sym}
use Rattle.std.specs.Prelude.{Some, None}
use Rattle.mp_io.specs.Moments.{shelved, sunk}
use Rattle.mp_words.specs.Requests.{asked, some_text}
use Rattle.mp_command.specs.Answers.{ActsAs, Answers, HasCauses}
use Rattle.mp_command.specs.Outcome.{IsOutcomeOver, IsOutcomeWith, program_limit}
use Rattle.mp_command.specs.Run.{wanted_program}
use Rattle.mp_command.proofs.Chain.{Answers-acted, Answers-loaded, Answers-unloaded, HasCauses-unloaded}
use Rattle.mp_command.proofs.answer.answer_over.Goals as goal

pub returns-in_default-clause-answers : goal.returns-in_default-clause-answers
returns-in_default-clause-answers g c =
    let request = asked c.args.request in
    let bytes = c.args.bytes.now in
    let shelf = shelved g.S.Shelf c.args.shelf.now c.args.shelf.now in
    let out = sunk g.O.Sink c.args.out.now c.act_over.new.out in
    let r = c.act_over.result in
    subst (λ p. Answers (wanted_program p) (λ files. IsOutcomeWith files request p bytes) shelf out r)
    (sym (ap some_text c.in_default.is))
    (Answers-acted [] (IsOutcomeOver request None bytes) shelf out r c.act_over.ensures.acts c.act_over.ensures.read)

pub returns-in-Ok-clause-answers : goal.returns-in-Ok-clause-answers
returns-in-Ok-clause-answers g c =
    let request = asked c.args.request in
    let bytes = c.args.bytes.now in
    let name = c.in-Some.name.now in
    let text = c.in-Ok.program.items in
    let first = shelved g.S.Shelf c.args.shelf.now c.load.new.shelf in
    let second = shelved g.S.Shelf c.load.new.shelf c.load.new.shelf in
    let out = sunk g.O.Sink c.args.out.now c.act_over-in-Ok.new.out in
    let r = c.act_over-in-Ok.result in
    let acts = subst (λ t. ActsAs (IsOutcomeOver request (Some (record { name = name; bytes = t })) bytes) out r)
    c.deref.ensures.value c.act_over-in-Ok.ensures.acts in
    subst (λ p. Answers (wanted_program p) (λ files. IsOutcomeWith files request p bytes) first out r)
    (sym (ap some_text c.in-Some.is))
    (Answers-loaded (λ files t. IsOutcomeOver request (Some (record { name = name; bytes = t })) bytes)
    (record { name = name; limit = program_limit }) [] text first second c.in-Ok.ensures.files refl refl
    c.in-Ok.ensures.later c.in-Ok.ensures.loads.0 c.in-Ok.ensures.loads.1 out r
    (Answers-acted [] (IsOutcomeOver request (Some (record { name = name; bytes = text })) bytes) second out r acts
    c.act_over-in-Ok.ensures.read))

pub returns-in-Err-clause-answers : goal.returns-in-Err-clause-answers
returns-in-Err-clause-answers g c =
    let request = asked c.args.request in
    let bytes = c.args.bytes.now in
    let name = c.in-Some.name.now in
    let shelf = shelved g.S.Shelf c.args.shelf.now c.load.new.shelf in
    let out = sunk g.O.Sink c.args.out.now c.args.out.now in
    let e = c.in-Err.ending in
    subst (λ p. Answers (wanted_program p) (λ files. IsOutcomeWith files request p bytes) shelf out e)
    (sym (ap some_text c.in-Some.is))
    (Answers-unloaded (λ files t. IsOutcomeOver request (Some (record { name = name; bytes = t })) bytes)
    (record { name = name; limit = program_limit }) [] shelf out e c.in-Err.ensures.loads refl refl)

pub returns-in-Err-clause-causes : goal.returns-in-Err-clause-causes
returns-in-Err-clause-causes g c =
    let name = c.in-Some.name.now in
    let shelf = shelved g.S.Shelf c.args.shelf.now c.load.new.shelf in
    subst (λ p. HasCauses (wanted_program p) shelf c.in-Err.ending) (sym (ap some_text c.in-Some.is))
    (HasCauses-unloaded (λ files t. IsOutcomeOver (asked c.args.request) (Some (record { name = name; bytes = t }))
    c.args.bytes.now) (record { name = name; limit = program_limit }) [] shelf c.in-Err.ending c.in-Err.ensures.loads)
