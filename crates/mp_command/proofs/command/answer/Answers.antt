use Rattle.std.proofs.Common.{◌≡◌, ◌∙◌, ap, refl, subst, sym}
use Rattle.std.specs.Prelude.{◌↔◌, None, option_map}
use Rattle.mp_io.specs.Moments.{shelved, sunk}
use Rattle.mp_words.specs.Requests.{asked}
use Rattle.mp_words.specs.Words.{request_of}
use Rattle.mp_command.specs.Messages.{usage_line}
use Rattle.mp_command.specs.Outcome.{IsOutcomeAt, refused}
use Rattle.mp_command.specs.Run.{words_behind}
use Rattle.mp_command.specs.declared.ending.Told.TheVariants as told
use Rattle.mp_command.proofs.Chain.{Answers-told, Appends-nothing}
use Rattle.mp_command.proofs.command.answer.Goals as goal

pub returns-in-Ok-None-clause-answers : goal.returns-in-Ok-None-clause-answers
returns-in-Ok-None-clause-answers g c =
    let asked_for = request_of (words_behind c.args.all.now) in
    let none : asked_for ≡ None = sym c.in-Ok-None.ensures ∙ ap (option_map asked) c.in-Ok-None.field-0-is in
    let shelf = shelved g.S.Shelf c.args.shelf.now c.args.shelf.now in
    let out = sunk g.O.Sink c.args.out.now c.args.out.now in
    Answers-told (λ files. IsOutcomeAt files asked_for) shelf out (refused 2 usage_line) told.Usage
    (λ files p. subst (λ r. IsOutcomeAt files r p ↔ (p ≡ refused 2 usage_line)) (sym none) (λ h. h, λ h. h))
    (record { status = refl; line = refl; text = Appends-nothing out refl; stays = refl })
