use Rattle.std.proofs.Common.{◌≡◌, ◌++◌, map}
use Rattle.std.specs.Prelude.{flat_map}
use Rattle.std.specs.Vec.Iter.{into_iter_items}
use Rattle.mp_term.specs.Tree.{trees}
use Rattle.mp_term.specs.View.{tree}
use Rattle.mp_term.specs.Normal.{parts, flattened, normal, normals}
use Rattle.mp_term.proofs.normal.+normal_form.Given as goal

abbrev pub invariant-flat_arguments-loop-arg : goal.invariant-flat_arguments-loop-arg
invariant-flat_arguments-loop-arg l =
    l.flat ++ flat_map (parts l.sig l.op.0) (map (λ t. normal l.sig (tree t)) (into_iter_items l.arg-iterator))
    ≡ flattened l.sig l.op.0 (normals l.sig (trees l.fn.args))
