-- The list of all pairings as a value: of the lists of class numbers, those that are pairings, in order.
use Rattle.std.specs.Prelude.{◌==◌, ℕ, Bool, true, false, ◌&&◌, nat_le, List, [], ◌∷◌, length, filter, count_by}
use Rattle.std.specs.Prelude.{slice_index}
use Rattle.std.specs.List.{list_any, list_all}
use Rattle.std.specs.Ordering.{nat_cmp}
use Rattle.std.specs.Cmp.Lexicographic.{slice_cmp}
use Rattle.mp_term.specs.Pieces.{distinct}
use Rattle.mp_choice.specs.Listed.{number_lists}

-- one of its classes for each item
abbrev pub one_each : List (List ℕ) → List ℕ → Bool
one_each [] [] = true
one_each (classes ∷ left) (c ∷ choice) = list_any (λ d. d == c) classes && one_each left choice
one_each _ _ = false

-- no class more often than its capacity
abbrev pub within : List ℕ → List ℕ → Bool
within capacities choice =
    list_all (λ class. nat_le (count_by (λ c. c == class) choice) (slice_index capacities class)) choice

-- the pairings, lexicographically
unfoldable pub pairings_of : List ℕ → List (List ℕ) → List (List ℕ)
pairings_of capacities left = distinct (slice_cmp nat_cmp)
    (filter (λ choice. one_each left choice && within capacities choice)
    (number_lists (length capacities) (length left)))
