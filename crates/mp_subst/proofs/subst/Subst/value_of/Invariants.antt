use Rattle.std.proofs.Common.{◌≡◌, map, drop}
use Rattle.mp_pattern.specs.Value as plain
use Rattle.mp_subst.specs.View.{binding_of, subst_of}
use Rattle.mp_subst.proofs.subst.Subst.value_of.Given as goal

abbrev pub invariant-loop-binding : goal.invariant-loop-binding
invariant-loop-binding l = plain.value_of (map binding_of (drop l.binding-index l.binding-items)) l.name
    ≡ plain.value_of (subst_of l.self) l.name
