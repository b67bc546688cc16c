-- How large the values of a substitution are.
use Rattle.std.specs.Prelude.{◌≤◌, ℕ}
use Rattle.std.specs.List.{AllByRecursion}
use Rattle.mp_term.specs.Size.{all_nodes}
use Rattle.mp_pattern.specs.Value.{Value, terms_of, Subst}

-- the terms of the value have at most n nodes together
abbrev pub HasAtMost : ℕ → Value → Type 0
HasAtMost n v = all_nodes (terms_of v) ≤ n

-- so have those of each value of the substitution
abbrev pub HaveAtMost : ℕ → Subst → Type 0
HaveAtMost n s = AllByRecursion (λ b. HasAtMost n b.value) s
