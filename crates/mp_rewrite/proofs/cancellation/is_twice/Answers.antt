use Rattle.std.proofs.Common.{◌≡◌, ◌∙◌, sym, ap}
use Rattle.mp_pattern.proofs.NameLaws.{same_name-is}
use Rattle.mp_rewrite.specs.Cancellation.{a_dot}
use Rattle.mp_rewrite.proofs.cancellation.is_twice.Goals as goal

pub returns : goal.returns
returns c = λ t.
    let name = c.in-Some.name.now in
    let other = c.in-Some-dot_variable.other.now in
    let same : name ≡ other = same_name-is name other (sym c.eq-2.ensures ∙ t) in
    (name, c.in-Some.ensures, c.in-Some-dot_variable.ensures ∙ ap a_dot (sym same), sym c.eq.ensures ∙ c.if-eq.false)
