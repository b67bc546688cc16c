use Rattle.std.proofs.Common.{refl, sym, ◌∙◌}
use Rattle.mp_syntax.proofs.bad_token.first_error.Goals as goal

pub returns-in-Some : goal.returns-in-Some
returns-in-Some c = λ read h. rw (sym c.bad_token.ensures ∙ c.in-Some.is) refl

pub returns-in-None : goal.returns-in-None
returns-in-None c = λ read h. rw (sym c.bad_token.ensures ∙ c.in-None.is) h
