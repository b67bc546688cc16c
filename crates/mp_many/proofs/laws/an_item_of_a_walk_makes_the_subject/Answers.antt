use Rattle.std.proofs.Common.{◌≡◌, ◌∙◌, sym, subst}
use Rattle.std.specs.Prelude.{Some}
use Rattle.mp_pattern.specs.Admission.{Rule}
use Rattle.mp_pattern.specs.Fits.{Fits}
use Rattle.mp_theory.proofs.Instances.{fits-applied}
use Rattle.mp_many.proofs.laws.an_item_of_a_walk_makes_the_subject.Goals as goal

pub returns : goal.returns
returns c = λ sig rules t is normal are n r T held named plain i.
    let w = (are.exactly (n, T)).0 i in
    let same : w.rule ≡ r = (let e : Some w.rule ≡ Some r = sym w.numbered ∙ held in cc) in
    let f = subst (λ (q : Rule). Fits sig q.pattern t w.subst T) same w.fits in
    (w.subst, f, fits-applied sig r.pattern t w.subst T named plain normal f)
