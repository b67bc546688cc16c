-- What the steps of an `Equations` do to its numbers. A list of numbers is light if its products have at most the total
-- as their sum.
use Rattle.std.specs.Prelude.{◌≡◌, ◌+◌, ◌<◌, ◌≤◌, ℕ, List, length, slice_index, drop}
use Rattle.std.specs.declared.cmp.Ordering.TheVariants.{Less}
use Rattle.std.specs.Ordering.{nat_cmp}
use Rattle.std.specs.Cmp.Lexicographic.{slice_cmp}
use Rattle.mp_choice.specs.Listed.{IsNext, IsLast}
use Rattle.mp_choice.specs.Equations.{weighed, IsSolution}

-- one number for each coefficient, and at most the total as the sum of their products
pub record IsLight (coefficients : List ℕ) (total : ℕ) (numbers : List ℕ) : Type 0 where
  pub one_each : length numbers ≡ length coefficients
  pub at_most : weighed coefficients numbers ≤ total

-- no light list comes later
abbrev pub IsLastLight : List ℕ → ℕ → List ℕ → Type 0
IsLastLight coefficients total = IsLast (slice_cmp nat_cmp) (IsLight coefficients total)

-- the next light list, and what it lacks to the total
pub record IsNextLight (coefficients : List ℕ) (total : ℕ) (old new : List ℕ) (rest : ℕ) : Type 0 where
  pub next : IsNext (slice_cmp nat_cmp) (IsLight coefficients total) old new
  pub lacks : weighed coefficients new + rest ≡ total

-- the number at i can rise, where none after it can; `free` is what is lacking once all after it are 0
pub record Rises (coefficients numbers : List ℕ) (rest i free : ℕ) : Type 0 where
  pub inside : i < length numbers
  pub enough : slice_index coefficients i ≤ free
  pub last : IsLastLight (drop (i + 1) coefficients) free (drop (i + 1) numbers)
  pub free_is : weighed (drop (i + 1) coefficients) (drop (i + 1) numbers) + rest ≡ free

-- a solution that does not come before the start
pub record IsSolutionFrom (coefficients : List ℕ) (total : ℕ) (start numbers : List ℕ) : Type 0 where
  pub solution : IsSolution coefficients total numbers
  pub from : slice_cmp nat_cmp numbers start ≡ Less → ⊥

-- the last number rose as far as what was lacking allows, past no solution; `rest` is lacking now
pub record FillsLast (coefficients : List ℕ) (total : ℕ) (old new : List ℕ) (rest : ℕ) : Type 0 where
  pub one_each : length new ≡ length coefficients
  pub lacks : weighed coefficients new + rest ≡ total
  pub from : slice_cmp nat_cmp new old ≡ Less → ⊥
  pub none_passed : (others : List ℕ) → IsSolutionFrom coefficients total old others
      → slice_cmp nat_cmp others new ≡ Less → ⊥
