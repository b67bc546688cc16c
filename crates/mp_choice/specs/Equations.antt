-- The solutions of an equation: numbers whose products with its coefficients have its total as their sum.
use Rattle.std.specs.Prelude.{◌≡◌, ◌+◌, ◌*◌, ℕ, List, [], ◌∷◌, length}
use Rattle.std.specs.Ordering.{nat_cmp}
use Rattle.std.specs.Cmp.Lexicographic.{slice_cmp}
use Rattle.mp_term.specs.Listing.{IsListing}

-- the sum of the products of each coefficient and its number
abbrev pub weighed : List ℕ → List ℕ → ℕ
weighed [] numbers = 0
weighed (c ∷ cs) [] = 0
weighed (c ∷ cs) (n ∷ ns) = c * n + weighed cs ns

-- one number for each coefficient, and the total as the sum of their products
pub record IsSolution (coefficients : List ℕ) (total : ℕ) (numbers : List ℕ) : Type 0 where
  pub one_each : length numbers ≡ length coefficients
  pub adds_up : weighed coefficients numbers ≡ total

-- all solutions, lexicographically
abbrev pub AreSolutions : List ℕ → ℕ → List (List ℕ) → Type 0
AreSolutions coefficients total = IsListing (slice_cmp nat_cmp) (IsSolution coefficients total)
