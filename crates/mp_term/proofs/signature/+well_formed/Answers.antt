use Rattle.std.proofs.Common.{◌≡◌, true, false, length, map, ap, ◌∙◌}
use Rattle.std.specs.Prelude.{slice_get}
use Rattle.mp_term.specs.Tree.{trees}
use Rattle.mp_term.specs.View.{tree}
use Rattle.mp_term.specs.Signature.{holds_of, allows, all_well_formed}
use Rattle.mp_term.proofs.WellFormedLaws.{well_formed-refused, well_formed-allowed}
use Rattle.mp_term.proofs.signature.+well_formed.Goals as goal

pub returns-then-not-allows : goal.returns-then-not-allows
returns-then-not-allows t c =
    let h : holds_of (allows (length c.in-App.args)) (slice_get c.args.sig.now.ops c.in-App.op.0) ≡ false = cc in
    rw c.in-App.is (well_formed-refused c.args.sig.now c.in-App.op.0 c.in-App.args h)

pub loop-arg-init : goal.loop-arg-init
loop-arg-init t c =
    let h : holds_of (allows (length c.in-App.args)) (slice_get c.args.sig.now.ops c.in-App.op.0) ≡ true = cc in
    let e : map tree c.deref-arg-items.result.now ≡ c.in-App.args = cc in
    rw c.in-App.is (ap (λ ts. all_well_formed c.args.sig.now (trees ts)) e
    ∙ well_formed-allowed c.args.sig.now c.in-App.op.0 c.in-App.args h)
