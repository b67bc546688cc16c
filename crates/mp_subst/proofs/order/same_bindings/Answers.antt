use Rattle.std.proofs.Common.{◌≡◌, true, arith}
use Rattle.mp_subst.specs.View.{binding_of}
use Rattle.mp_subst.proofs.Equality.{items_equal}
use Rattle.mp_subst.proofs.order.same_bindings.Goals as goal

pub returns-then-not-same_binding : goal.returns-then-not-same_binding
returns-then-not-same_binding c = (
  λ h. cc,
  λ e.
      let same = items_equal binding_of c.args.bindings.now c.args.others.now c.loop-i.i c.index-bindings-i.result
      c.index-others-i.result c.loop-i-test.true
      (omega (arith, c.loop-i-test.true, c.loop-i.invariant.lens)) c.index-bindings-i.is c.index-others-i.is e in
      let yes : c.same_binding.result ≡ true = c.same_binding.ensures.1 same in
      cc,
)
