-- The lists that a node may take, as they are drawn from a pool or from what is left.
use Rattle.std.specs.Prelude.{ℕ, ◌+◌, ◌-◌, min, length, List, [], ◌∷◌, ◌++◌, true, false, if◌then◌else◌}
use Rattle.std.specs.declared.cmp.Ordering.{Ordering}
use Rattle.std.specs.List.{range_with_len}
use Rattle.mp_term.specs.Listing.{above}
use Rattle.mp_term.specs.Order.{shortlex}
use Rattle.mp_term.specs.Pieces.{distinct, pieces_among}
use Rattle.mp_search.specs.declared.level.Source.{Source}
use Rattle.mp_search.specs.declared.level.Source.TheVariants.{Nothing, Front, Bag, Whole}

-- the lengths from the least to the greatest, which is at most n
abbrev pub lengths : ℕ → ℕ → ℕ → List ℕ
lengths least most n = range_with_len least (min most n + 1 - least)

module _ {X : Type 0} (cmp : X → X → Ordering) where
  -- the lists by shortlex, each once: none; the fronts of what is left that have the lengths; the sublists of the pool
  -- that have them; the empty list, the pool, or both
  abbrev pub drawn : Source → List X → List X → List (List X)
  drawn Nothing pool left = []
  drawn (Front least most) pool left = pieces_among cmp false (lengths least most (length left)) left
  drawn (Bag least most) pool left = pieces_among cmp true (lengths least most (length pool)) pool
  drawn (Whole empty whole) pool left =
      distinct (shortlex cmp) ((if empty then [] ∷ [] else []) ++ (if whole then pool ∷ [] else []))

  -- those above a list
  abbrev pub lists_above : List X → List (List X) → List (List X)
  lists_above = above (shortlex cmp)
