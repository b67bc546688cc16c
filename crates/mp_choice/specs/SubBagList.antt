-- The list of all sub-multisets as a value: of the lists of numbers that are at most the sum of the counts, those that
-- are sub-multisets, in order.
use Rattle.std.specs.Prelude.{ℕ, Bool, true, false, ◌&&◌, nat_le, List, [], ◌∷◌, length, sum, filter}
use Rattle.std.specs.declared.cmp.Ordering.{Ordering}
use Rattle.std.specs.Ordering.{nat_cmp, ordering_then}
use Rattle.std.specs.Cmp.Lexicographic.{slice_cmp}
use Rattle.mp_term.specs.Pieces.{distinct}
use Rattle.mp_choice.specs.Listed.{number_lists}

-- by size, then the other way round from the lexicographic order: for lists of one length the shortlex order of the
-- class numbers
abbrev pub counts_order : List ℕ → List ℕ → Ordering
counts_order a b = ordering_then (nat_cmp (sum a) (sum b)) (slice_cmp nat_cmp b a)

-- one number for each class, at most its count
abbrev pub all_at_most : List ℕ → List ℕ → Bool
all_at_most [] [] = true
all_at_most (count ∷ counts) (n ∷ ns) = nat_le n count && all_at_most counts ns
all_at_most _ _ = false

-- the sub-multisets of the counts, by `counts_order`
unfoldable pub sub_bags_of : List ℕ → List (List ℕ)
sub_bags_of counts = distinct counts_order (filter (all_at_most counts) (number_lists (sum counts) (length counts)))
