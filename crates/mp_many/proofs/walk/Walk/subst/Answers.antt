use Rattle.std.proofs.Common.{◌≡◌, true, sym, subst}
use Rattle.std.specs.Prelude.{IfSome, slice_get}
use Rattle.mp_pattern.specs.Fits.{Fits}
use Rattle.mp_pattern.specs.Instance.{is_fully_named, IsPatternApplied}
use Rattle.mp_theory.specs.NoOptional.{HasNoOptional}
use Rattle.mp_table.specs.Table.{subject_of}
use Rattle.mp_many.proofs.walk.Walk.subst.Goals as goal

pub returns-clause-fits : goal.returns-clause-fits
returns-clause-fits c =
    let v = c.args.self.now in
    subst (λ s. IfSome v.item (λ i. IfSome (slice_get v.many.rules i.0)
    (λ r. Fits v.many.sig r.pattern (subject_of v.table) s i.1))) (sym c.in_ok-subst.ensures)
    c.in_ok-pair.ensures.fits

pub returns-clause-applied : goal.returns-clause-applied
returns-clause-applied c =
    let v = c.args.self.now in
    subst (λ s. IfSome v.item (λ i. IfSome (slice_get v.many.rules i.0)
    (λ r. is_fully_named r.pattern ≡ true → HasNoOptional r.pattern
    → IsPatternApplied v.many.sig r.pattern s (subject_of v.table)))) (sym c.in_ok-subst.ensures)
    c.in_ok-pair.ensures.applied
