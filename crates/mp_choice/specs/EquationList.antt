-- The list of all solutions as a value: of the lists of numbers that are at most the total, those that are solutions,
-- in order.
use Rattle.std.specs.Prelude.{ℕ, ◌&&◌, ◌==◌, List, length, filter}
use Rattle.std.specs.Ordering.{nat_cmp}
use Rattle.std.specs.Cmp.Lexicographic.{slice_cmp}
use Rattle.mp_term.specs.Pieces.{distinct}
use Rattle.mp_choice.specs.Listed.{number_lists}
use Rattle.mp_choice.specs.Equations.{weighed}

-- the solutions of an equation, none of whose coefficients is 0, lexicographically
unfoldable pub solutions_of : List ℕ → ℕ → List (List ℕ)
solutions_of coefficients total = distinct (slice_cmp nat_cmp)
    (filter (λ ns. (length ns == length coefficients) && (weighed coefficients ns == total))
    (number_lists total (length coefficients)))
