use Rattle.std.proofs.Common.{◌≡◌, ◌++◌, map, drop}
use Rattle.mp_subst.specs.View.{binding_of, subst_of}
use Rattle.mp_subst.proofs.copy.copy_subst.Given as goal

abbrev pub invariant-loop-binding : goal.invariant-loop-binding
invariant-loop-binding l = l.bindings ++ map binding_of (drop l.binding-index l.binding-items) ≡ subst_of l.subst
