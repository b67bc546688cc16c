-- The list of all splits as a value: of the lists of numbers that are at most the length, those that are splits, in
-- order.
use Rattle.std.specs.Prelude.{ℕ, Bool, true, false, ◌&&◌, ◌==◌, nat_le, List, [], ◌∷◌, Option, Some, None, length, sum}
use Rattle.std.specs.Prelude.{filter}
use Rattle.std.specs.Ordering.{nat_cmp}
use Rattle.std.specs.Cmp.Lexicographic.{slice_cmp}
use Rattle.mp_term.specs.Pieces.{distinct}
use Rattle.mp_choice.specs.declared.splits.Part.{Part}
use Rattle.mp_choice.specs.Listed.{number_lists}

-- a number is at most the bound, where there is one
abbrev pub at_most : Option ℕ → ℕ → Bool
at_most None n = true
at_most (Some most) n = nat_le n most

-- one length for each part, within its bounds
abbrev pub are_within : List Part → List ℕ → Bool
are_within [] [] = true
are_within (p ∷ ps) (n ∷ ns) = (nat_le p.least n && at_most p.most n) && are_within ps ns
are_within _ _ = false

-- the splits of a length by parts, lexicographically
unfoldable pub splits_of : ℕ → List Part → List (List ℕ)
splits_of total parts = distinct (slice_cmp nat_cmp)
    (filter (λ ns. are_within parts ns && (sum ns == total)) (number_lists total (length parts)))
