-- The trees of conditions, whose parts the code holds in vectors.
use Rattle.std.proofs.Common.{◌≡◌, ◌≤◌, ◌<◌, List, [], ◌∷◌, map, length, get_or, sym, ap, ◌∙◌, arith}
use Rattle.mp_parser.specs.declared.condition_tree.Alternative.{Alternative}
use Rattle.mp_parser.specs.declared.condition_tree.Condition.{Condition, Condition', items_shown-the_row-Alternative-1}
use Rattle.mp_parser.specs.declared.condition_tree.Condition.{out-Condition}
use Rattle.mp_parser.specs.declared.condition_tree.Literal.TheViews.{outs-struct-Condition}
use Rattle.mp_parser.specs.Syntax.{condition, no_alternatives, more_alternatives}
use Rattle.mp_parser.specs.View.{alternative_tree, condition_tree}
use Rattle.mp_parser.proofs.ConditionTrees.{row_alternatives-row}

-- a condition is its alternatives
condition_tree-alternatives : (c : Condition)
    → condition_tree c ≡ condition (map alternative_tree (out-Condition c).alternatives.items)
condition_tree-alternatives (Condition' shape row) =
    row_alternatives-row _ row
    ∙ ap (λ l. condition (map alternative_tree l)) (sym (items_shown-the_row-Alternative-1 shape row))
    ∙ ap (λ x. condition (map alternative_tree x.alternatives.items)) (sym (outs-struct-Condition shape row))

-- the same, of a slice of all alternatives
pub condition_tree-slice : (c : Condition) (parts : List Alternative) → parts ≡ (out-Condition c).alternatives.items
    → condition_tree c ≡ condition (map alternative_tree parts)
condition_tree-slice c parts e = condition_tree-alternatives c ∙ ap (λ l. condition (map alternative_tree l)) (sym e)

-- a list of one item
pub only-item : {X : Type 0} (xs : List X) (x : X) → 1 ≤ length xs → length xs < 2 → x ≡ get_or xs 0 x → xs ≡ x ∷ []
only-item [] x h k e = absurd (omega arith)
only-item (y ∷ []) x h k e = ap (λ z. z ∷ []) (sym e)
only-item (y ∷ z ∷ xs) x h k e = absurd (omega arith)

-- a condition of one alternative
pub condition_tree-only : (c : Condition) (parts : List Alternative) (x : Alternative)
    → parts ≡ (out-Condition c).alternatives.items → 1 ≤ length parts → length parts < 2 → x ≡ get_or parts 0 x
    → condition_tree c ≡ more_alternatives (alternative_tree x) no_alternatives
condition_tree-only c parts x e h k is = condition_tree-slice c parts e
    ∙ ap (λ l. condition (map alternative_tree l)) (only-item parts x h k is)
