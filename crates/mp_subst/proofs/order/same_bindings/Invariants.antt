use Rattle.std.proofs.Common.{◌≡◌, map, length, drop}
use Rattle.mp_subst.specs.View.{binding_of}
use Rattle.mp_subst.proofs.order.same_bindings.Given as goal

abbrev pub invariant-loop-i : goal.invariant-loop-i
invariant-loop-i l = record {
  lens : length l.bindings ≡ length l.others;
  rest : map binding_of (drop l.i l.bindings) ≡ map binding_of (drop l.i l.others)
      → map binding_of l.bindings ≡ map binding_of l.others;
}
