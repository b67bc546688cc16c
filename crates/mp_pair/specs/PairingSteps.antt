-- Where the search for pairings stands. A front is the list of the classes of the first left items, and a place is a
-- front and a bound: the least class that the item after the front may take.
use Rattle.std.specs.Prelude.{◌≡◌, ◌<◌, ◌≤◌, ◌==◌, ◌⊎◌, ◌++◌, ℕ, List, [], ◌∷◌, Contains, count_by, length, take}
use Rattle.std.specs.Prelude.{slice_index, slice_index_or}
use Rattle.std.specs.declared.cmp.Ordering.TheVariants.{Less}
use Rattle.std.specs.Ordering.{nat_cmp}
use Rattle.std.specs.Cmp.Lexicographic.{slice_cmp}
use Rattle.std.specs.List.{AllZip}
use Rattle.mp_pair.specs.Pairings.{IsPairing}

-- the front gives each of the first left items one of its classes, within the capacities
pub record IsFront (capacities : List ℕ) (left : List (List ℕ)) (front : List ℕ) : Type 0 where
  pub one_each : AllZip Contains (take (length front) left) front
  pub within : (class : ℕ) → count_by (λ c. c == class) front ≤ slice_index capacities class

-- the class has room beside those chosen
abbrev pub HasRoom : List ℕ → List ℕ → ℕ → Type 0
HasRoom capacities chosen class = count_by (λ c. c == class) chosen < slice_index capacities class

-- no pairing begins with the front
abbrev pub IsDeadEnd : List ℕ → List (List ℕ) → List ℕ → Type 0
IsDeadEnd capacities left front = (others : List ℕ) → IsPairing capacities left others
    → take (length front) others ≡ front → ⊥

-- a class of the item after the front that is at least the bound and has room, where each lesser one from the bound on
-- leads to no pairing
pub record IsNextClass (capacities : List ℕ) (left : List (List ℕ)) (front : List ℕ) (bound class : ℕ) : Type 0 where
  pub one : (d : List ℕ) → Contains (slice_index_or left (length front) d) class
  pub from : bound ≤ class
  pub room : HasRoom capacities front class
  pub least : (other : ℕ) (d : List ℕ) → Contains (slice_index_or left (length front) d) other → bound ≤ other
      → other < class → IsDeadEnd capacities left (front ++ other ∷ [])

-- each class of the item after the front from the bound on leads to no pairing
abbrev pub HasNoClass : List ℕ → List (List ℕ) → List ℕ → ℕ → Type 0
HasNoClass capacities left front bound = (other : ℕ) (d : List ℕ)
    → Contains (slice_index_or left (length front) d) other → bound ≤ other
    → IsDeadEnd capacities left (front ++ other ∷ [])

-- the list comes before every list that begins with the front and goes on with the bound or more
abbrev pub Below : List ℕ → List ℕ → ℕ → Type 0
Below [] front bound = ⊥
Below (x ∷ xs) [] bound = x < bound
Below (x ∷ xs) (y ∷ ys) bound = (x < y) ⊎ ((x ≡ y) × Below xs ys bound)

-- the first pairing that does not come before the place
pub record IsFirstAt (capacities : List ℕ) (left : List (List ℕ)) (front : List ℕ) (bound : ℕ)
    (new : List ℕ) : Type 0 where
  pub pairing : IsPairing capacities left new
  pub from : Below new front bound → ⊥
  pub none_before : (others : List ℕ) → IsPairing capacities left others → (Below others front bound → ⊥)
      → slice_cmp nat_cmp others new ≡ Less → ⊥

-- each pairing comes before the place
abbrev pub NoneAt : List ℕ → List (List ℕ) → List ℕ → ℕ → Type 0
NoneAt capacities left front bound = (others : List ℕ) → IsPairing capacities left others
    → (Below others front bound → ⊥) → ⊥
