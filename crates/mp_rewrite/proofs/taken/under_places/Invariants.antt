use Rattle.std.proofs.Common.{◌≡◌, ◌<◌, ℕ, map, false, [], ◌∷◌}
use Rattle.std.specs.Prelude.{slice_get, Some}
use Rattle.mp_term.specs.NormalTest.{has_head}
use Rattle.mp_term.specs.Order.{tree_cmp}
use Rattle.mp_term.specs.Tree.{Tree, app, trees}
use Rattle.mp_term.specs.View.{tree}
use Rattle.mp_term.proofs.Sorting.{tally}
use Rattle.mp_rewrite.proofs.taken.under_places.Given as goal

-- none so far has an argument that stands there too
abbrev pub invariant-loop-index : goal.invariant-loop-index
invariant-loop-index l = (i : ℕ) (v : Tree) → i < l.index
    → slice_get (map tree l.args) i ≡ Some (app l.inner.0 (trees (v ∷ [])))
    → (has_head l.op.0 v ≡ false) × (tally tree_cmp v (map tree l.args) ≡ 0)
