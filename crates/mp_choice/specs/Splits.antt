-- The splits of a length by parts.
use Rattle.std.specs.Prelude.{◌≡◌, ℕ, ◌≤◌, List, sum, sum_by, IfSome}
use Rattle.std.specs.List.{AllZip}
use Rattle.std.specs.Ordering.{nat_cmp}
use Rattle.std.specs.Cmp.Lexicographic.{slice_cmp}
use Rattle.mp_choice.specs.declared.splits.Part.{Part}
use Rattle.mp_term.specs.Listing.{IsListing}

-- the length is within the part's bounds
pub record Allows (part : Part) (length : ℕ) : Type 0 where
  pub least : part.least ≤ length
  pub most : IfSome part.most (λ most. length ≤ most)

-- the sum of the least lengths
abbrev pub leasts : List Part → ℕ
leasts = sum_by (λ p. p.least)

-- one length for each part, within its bounds, and their sum
pub record IsSplit (length : ℕ) (parts : List Part) (lengths : List ℕ) : Type 0 where
  pub within : AllZip Allows parts lengths
  pub adds_up : sum lengths ≡ length

-- all splits, lexicographically
abbrev pub AreSplits : ℕ → List Part → List (List ℕ) → Type 0
AreSplits length parts = IsListing (slice_cmp nat_cmp) (IsSplit length parts)
