-- Equal lists of terms.
use Rattle.std.proofs.Common.{◌≡◌, List, map, refl, sym, ◌∙◌}
use Rattle.std.specs.Ordering.{eq_by_cmp}
use Rattle.std.specs.Cmp.Lexicographic.{pointwise, lists_ties}
use Rattle.std.specs.Cmp.Derive.Mapped.{pointwise-map}
use Rattle.mp_term.specs.Tree.{Tree}
use Rattle.mp_term.specs.Order.{tree_cmp}
use Rattle.mp_pattern.specs.Value.{same_terms}

-- as `==` compares lists of what is seen as terms
pub pointwise-same_terms : {X : Type 0} (view : X → Tree) (xs ys : List X)
    → pointwise (λ x y. eq_by_cmp tree_cmp (view x) (view y)) xs ys ≡ same_terms (map view xs) (map view ys)
pointwise-same_terms view xs ys = sym (pointwise-map view (eq_by_cmp tree_cmp) xs ys)
    ∙ lists_ties tree_cmp (λ _ _. refl) (map view xs) (map view ys)
