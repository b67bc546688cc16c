-- What rules ask of a path that accepts them.
use Rattle.std.specs.Prelude.{ℕ, suc, Bool, false, ◌&&◌, not, List, [], ◌∷◌, length, map, max, slice_get, Option, Some}
use Rattle.std.specs.Prelude.{None, nat_eq, nat_le}
use Rattle.std.specs.List.{list_any, list_all}
use Rattle.std.specs.Option.{option_map_or}
use Rattle.mp_io.specs.Devices.{Text}
use Rattle.mp_pattern.specs.CondTree.{Cond}
use Rattle.mp_pattern.specs.Firsts.{firsts_after}
use Rattle.mp_pattern.specs.PatternTree.{Wildcard, is_sequence}
use Rattle.mp_program.specs.Program.{ProgramRule}
use Rattle.mp_program.specs.TokenPaths.{cond_names, less_names, test_of}
use Rattle.mp_vm.specs.Looks.{place_of}
use Rattle.mp_vm.specs.declared.needs.Needs as declared

-- how many variables the rule has, how many of v0, v1 and so on its test names, and the places of those that this
-- compares by `less`, each once
pub record Needs : Type 0 where
  pub vars : ℕ
  pub named : ℕ
  pub compared : List ℕ

abbrev pub needs_view : declared.Needs → Needs
needs_view n = record { vars = n.vars; named = n.named; compared = n.compared.items }

-- the places of names
abbrev pub places : List Text → List ℕ
places xs = map place_of xs

-- one more than the greatest place of a name
abbrev pub count_named : List Text → ℕ
count_named [] = 0
count_named (x ∷ xs) = max (suc (place_of x)) (count_named xs)

-- places and those of further names, each once
abbrev pub with_places : List ℕ → List Text → List ℕ
with_places ns xs = firsts_after nat_eq ns (places xs)

-- what a rule with so many variables needs, where it has this test
abbrev pub needs_with : ℕ → Option Cond → Needs
needs_with count None = record { vars = count; named = 0; compared = [] }
needs_with count (Some c) =
    record { vars = count; named = count_named (cond_names c); compared = with_places [] (less_names c) }

-- what a rule needs
abbrev pub needs_of : List Cond → ProgramRule → Needs
needs_of tests r = needs_with (length r.vars) (test_of tests r.test)

-- the wildcard at the place is a plus, star or counted one
abbrev pub is_sequence_at : List Wildcard → ℕ → Bool
is_sequence_at ws n = option_map_or is_sequence (slice_get ws n) false

-- variables with these wildcards are what is needed
abbrev pub meets_needs : List Wildcard → Needs → Bool
meets_needs ws d = nat_eq d.vars (length ws)
    && (nat_le d.named (length ws) && not (list_any (is_sequence_at ws) d.compared))

-- they are what each of the rules needs
abbrev pub meets_all : List Needs → List Wildcard → List ℕ → Bool
meets_all ds ws rules = list_all (λ n. option_map_or (meets_needs ws) (slice_get ds n) false) rules
