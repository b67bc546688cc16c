-- The order in which the pairs that a walk finds are sorted.
use Rattle.std.specs.Prelude.{ℕ, List, map}
use Rattle.std.specs.declared.cmp.Ordering.{Ordering}
use Rattle.std.specs.Ordering.{nat_cmp, ordering_then}
use Rattle.std.specs.Cmp.Lexicographic.{slice_cmp}
use Rattle.mp_pattern.specs.Lists.{Pair, subst_cmp}
use Rattle.mp_pattern.specs.Value.{Subst}

-- the variables of a substitution
abbrev pub names_of : Subst → List (List ℕ)
names_of s = map (λ b. b.name) s

-- lists of names compare from the left
abbrev pub names_cmp : List (List ℕ) → List (List ℕ) → Ordering
names_cmp = slice_cmp (slice_cmp nat_cmp)

-- pairs compare by the rules' numbers, then by the variables, and then by the substitutions
abbrev pub found_cmp : Pair → Pair → Ordering
found_cmp p q =
    ordering_then (nat_cmp p.0 q.0) (ordering_then (names_cmp (names_of p.1) (names_of q.1)) (subst_cmp p.1 q.1))
