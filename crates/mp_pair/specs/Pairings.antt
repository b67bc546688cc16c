-- The pairings of a graph: its left items with the classes that each may take, and the capacity of each class.
use Rattle.std.specs.Prelude.{◌≤◌, ◌==◌, ℕ, List, Contains, count_by, slice_index}
use Rattle.std.specs.List.{AllZip}
use Rattle.std.specs.Ordering.{nat_cmp}
use Rattle.std.specs.Cmp.Lexicographic.{slice_cmp}
use Rattle.mp_term.specs.Listing.{IsListing}

-- one of its classes for each left item, and no class more often than its capacity
pub record IsPairing (capacities : List ℕ) (left : List (List ℕ)) (choice : List ℕ) : Type 0 where
  pub one_each : AllZip Contains left choice
  pub within : (class : ℕ) → count_by (λ c. c == class) choice ≤ slice_index capacities class

-- all pairings, lexicographically
abbrev pub ArePairings : List ℕ → List (List ℕ) → List (List ℕ) → Type 0
ArePairings capacities left = IsListing (slice_cmp nat_cmp) (IsPairing capacities left)
