use Rattle.std.proofs.Common.{refl, sym, ◌∙◌}
use Rattle.mp_parser.specs.Machine.{AfterRole, AfterName, heading}
use Rattle.mp_parser.specs.View.{placed, spot_of}
use Rattle.mp_text.proofs.SubjectLaws.{over-keyword}
use Rattle.mp_text.proofs.heading.named.Goals as goal

pub returns-clause-read : goal.returns-clause-read
returns-clause-read c = λ role begins done.
    over-keyword c.args.text.now (AfterRole role) done (placed c.args.parser.now.token) _ _ begins c.advance.ensures
    (sym c.sees_word.ensures ∙ c.if-not-sees_word.false)
    ∙ c.in-Ok.ensures.read done (AfterRole role) (λ w. AfterName (heading role w)) (λ u. refl)
    ∙ c.in-Ok-expect.ensures.read done (AfterName (heading role (spot_of c.in-Ok.name))) _ refl
