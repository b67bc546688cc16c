-- Whether two patterns take two trees with different values of a variable.
use Rattle.std.specs.Prelude.{Bool, ◌&&◌, not, None}
use Rattle.std.specs.List.{list_any}
use Rattle.std.specs.Ordering.{is_eq}
use Rattle.mp_term.specs.Order.{trees_cmp}
use Rattle.mp_term.specs.Tree.{Tree, trees}
use Rattle.mp_pattern.specs.PatternTree.{Pattern}
use Rattle.mp_pattern.specs.Value.{same_name}
use Rattle.mp_theory.specs.Shape.{takings}
use Rattle.mp_theory.specs.Solve.{Taken}

-- the two takes are of one variable, and of different trees
abbrev pub differ : Taken → Taken → Bool
differ a b = same_name a.by.name b.by.name && not (is_eq (trees_cmp (trees a.terms) (trees b.terms)))

-- some variable takes one tree in the first pattern and another one in the second
abbrev pub clash : Pattern → Tree → Pattern → Tree → Bool
clash p u q v = list_any (λ a. list_any (differ a) (takings None q v)) (takings None p u)
