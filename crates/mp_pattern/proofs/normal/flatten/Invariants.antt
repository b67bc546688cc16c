use Rattle.std.proofs.Common.{◌≡◌, ◌++◌, map}
use Rattle.std.specs.Prelude.{flat_map}
use Rattle.std.specs.Vec.Iter.{into_iter_items}
use Rattle.mp_pattern.specs.View.{pattern_tree}
use Rattle.mp_pattern.specs.Normal.{parts, flattened}
use Rattle.mp_pattern.proofs.normal.flatten.Given as goal

abbrev pub invariant-loop-arg : goal.invariant-loop-arg
invariant-loop-arg l = l.args ++ flat_map (parts l.sig l.op.0) (map pattern_tree (into_iter_items l.arg-iterator))
    ≡ flattened l.sig l.op.0 l.fn.args
