-- The trees of conditions and of their alternatives.
use Rattle.std.proofs.Common.{◌≡◌, map, Vec, Global, refl, sym, ap, ◌∙◌}
use mathlib.Core.Former.{Count}
use Rattle.mp_parser.specs.declared.condition_tree.Alternative.{Alternative, Row_of-Literal, end_of-Literal}
use Rattle.mp_parser.specs.declared.condition_tree.Alternative.{more_of-Literal, items-the_row-Literal}
use Rattle.mp_parser.specs.declared.condition_tree.Alternative.{items_shown-the_row-Literal-0}
use Rattle.mp_parser.specs.declared.condition_tree.Condition.{Condition, Condition', Row_of-Alternative}
use Rattle.mp_parser.specs.declared.condition_tree.Condition.{end_of-Alternative, more_of-Alternative, roll-Condition}
use Rattle.mp_parser.specs.declared.condition_tree.Condition.{items-the_row-Alternative}
use Rattle.mp_parser.specs.declared.condition_tree.Condition.{items_hidden-the_row-Alternative-1}
use Rattle.mp_parser.specs.Syntax.{more_literals, literals, more_alternatives, condition}
use Rattle.mp_parser.specs.View.{literal_tree, row_literals, row_alternatives, alternative_tree, condition_tree}

-- the literals of a row, as a list of them
row_literals-row : (n : _) (row : Row_of-Literal n)
    → row_literals row ≡ literals (map literal_tree (items-the_row-Literal n row))
row_literals-row n end_of-Literal = refl
row_literals-row n (more_of-Literal l row) = ap (more_literals (literal_tree l)) (row_literals-row _ row)

-- the alternatives of a row, as a list of them
pub row_alternatives-row : (n : _) (row : Row_of-Alternative n)
    → row_alternatives row ≡ condition (map alternative_tree (items-the_row-Alternative n row))
row_alternatives-row n end_of-Alternative = refl
row_alternatives-row n (more_of-Alternative shape ls row) =
    λ i. more_alternatives
    ((row_literals-row _ ls ∙ ap (λ l. literals (map literal_tree l))
    (sym (items_shown-the_row-Literal-0 shape ls))) i) (row_alternatives-row _ row i)

abbrev row_of : Condition → (n : Count) × Row_of-Alternative n
row_of (Condition' _ row) = (_, row)

-- a condition is the trees of its alternatives
pub condition_tree-Condition : (v : Vec Alternative Global)
    → condition_tree (roll-Condition (record { alternatives = v })) ≡ condition (map alternative_tree v.items)
unfolding roll-Condition Rattle.mp_parser.specs.declared.condition_tree.Literal.TheBlock.hidden-the_row-Alternative-1
    denote.Hole.Carrier.roll
condition_tree-Condition v =
    let row = row_of (roll-Condition (record { alternatives = v })) in
    row_alternatives-row row.0 row.1 ∙ ap (λ l. condition (map alternative_tree l))
    (items_hidden-the_row-Alternative-1 v)
