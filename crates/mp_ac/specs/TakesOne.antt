-- Children of a commutative operation that take one term, in one way at most, and the search where one is the first.
use Rattle.std.specs.Prelude.{ℕ, Bool, false, List, [], ◌∷◌, map, flat_map, if◌then◌else◌}
use Rattle.mp_term.specs.Order.{tree_cmp}
use Rattle.mp_term.specs.Pieces.{is_sublist, without}
use Rattle.mp_term.specs.Signature.{Sig}
use Rattle.mp_term.specs.Tree.{Tree}
use Rattle.mp_pattern.specs.PatternTree.{Pattern, symbol_pattern, app_pattern, wild_pattern, Patterns}
use Rattle.mp_pattern.specs.Syntactic.{is_syntactic}
use Rattle.mp_pattern.specs.Value.{Subst}
use Rattle.mp_theory.specs.Filled.{filled}
use Rattle.mp_theory.specs.Items.{in_front}
use Rattle.mp_theory.specs.OneList.{Item}
use Rattle.mp_theory.specs.Shape.{shape, table_of}
use Rattle.mp_theory.specs.Trail.{listed_by}
use Rattle.mp_ac.specs.CommList.{comm_list}

-- the child is a syntactic pattern, and no wildcard
abbrev pub takes_one : Sig → Pattern → Bool
takes_one sig (symbol_pattern n) = is_syntactic sig (symbol_pattern n)
takes_one sig (app_pattern g ps) = is_syntactic sig (app_pattern g ps)
takes_one sig (wild_pattern w x) = false

-- the term stands among those that are left
abbrev pub is_left : List Tree → Tree → Bool
is_left left t = is_sublist tree_cmp (t ∷ []) left

module _ (sig : Sig) (g : ℕ) (p : Pattern) (ps : Patterns) (left : List Tree) (owes : Bool) (s : Subst) where
  -- the items where the child takes the term, which has its shape, and the later children what is left then
  abbrev pub items_with : Tree → List Item
  items_with t = map (in_front (table_of p t))
      (listed_by (λ r. comm_list sig g ps (without tree_cmp (t ∷ []) left) owes r) (filled sig p t s))

  -- so it is with a term that may not be left, or may not have the shape
  abbrev pub items_by : Tree → List Item
  items_by t = if is_left left t then (if shape p t then items_with t else []) else []

  -- those of the terms in turn
  abbrev pub items_among : List Tree → List Item
  items_among = flat_map items_by
