-- The nodes of an expression, counted up to the greatest `u64`, which stands for a large default too.
use Rattle.std.proofs.Common.{◌≡◌, ℕ, Bool, true, false, ◌||◌, ◌≤◌, ◌+◌, ◌-◌, ◌^◌, min, List, [], ◌∷◌, ◌++◌, length}
use Rattle.std.proofs.Common.{arith, refl}
use Rattle.std.specs.Prelude.{nat_lt, if◌then◌else◌}
use Rattle.std.specs.Str.{bytes_eq}
use Rattle.std.proofs.lemmas.Bool.{le-ltb}
use Rattle.std.proofs.lemmas.List.{length-append}
use Rattle.mp_pattern.specs.Firsts.{is_known, add_new, firsts_after}
use Rattle.mp_pattern.specs.declared.limits.TheConstants.{MAX_PATTERN_NODES, MAX_VARIABLES}
use Rattle.mp_parser.specs.Syntax.{Tree, Symbol, Apply, InfixOf, Wild, Optional, Counted, Variable, Trees, no_trees}
use Rattle.mp_parser.specs.Syntax.{more_trees}
use Rattle.mp_build.specs.Checks.{nodes, all_nodes, has_large_default, is_large_pattern}
use Rattle.mp_build.specs.Names.{named}
use Rattle.mp_build.specs.Scope as scope
use Rattle.mp_build.specs.Scope.{pattern_variables, all_pattern_variables, names_of, variable_names}

-- the count of so many nodes, where there is a large default or none
abbrev pub counted : Bool → ℕ → ℕ
counted large n = if large then 2 ^ 64 - 1 else min n (2 ^ 64 - 1)

-- one node more
pub counted-suc : (large : Bool) (n : ℕ) → min (1 + counted large n) (2 ^ 64 - 1) ≡ counted large (1 + n)
counted-suc true n = omega arith
counted-suc false n = omega arith

length-add_new : (ys : List (List ℕ)) (x : List ℕ) → length (add_new bytes_eq ys x) ≤ length ys + 1
length-add_new ys x = by_case (is_known bytes_eq ys x)
  where
    by_case : (b : Bool) → length (if b then ys else ys ++ (x ∷ [])) ≤ length ys + 1
    by_case true = omega arith
    by_case false = omega (arith, length-append ys (x ∷ []))

length-firsts_after : (ys xs : List (List ℕ)) → length (firsts_after bytes_eq ys xs) ≤ length ys + length xs
length-firsts_after ys [] = omega arith
length-firsts_after ys (x ∷ xs) = omega (arith, length-firsts_after (add_new bytes_eq ys x) xs, length-add_new ys x)

length-named : (name : List ℕ) → length (named name) ≤ 1
length-named [] = omega arith
length-named (byte ∷ bytes) = omega arith

length-names_of : (vs : List scope.Variable) → length (names_of vs) ≤ length vs
length-names_of [] = omega arith
length-names_of (v ∷ vs) =
    omega (arith, length-named v.name, length-names_of vs, length-append (named v.name) (names_of vs))

mutual
  length-pattern_variables : (t : Tree) → length (pattern_variables t) ≤ nodes t
  length-pattern_variables (Symbol w) = omega arith
  length-pattern_variables (Apply f args) = omega (arith, length-all_pattern_variables args)
  length-pattern_variables (InfixOf opened sign operands) = omega (arith, length-all_pattern_variables operands)
  length-pattern_variables (Wild w) = omega arith
  length-pattern_variables (Optional w others default) = omega arith
  length-pattern_variables (Counted w count more) = omega arith
  length-pattern_variables (Variable x) = omega arith

  length-all_pattern_variables : (ts : Trees) → length (all_pattern_variables ts) ≤ all_nodes ts
  length-all_pattern_variables no_trees = omega arith
  length-all_pattern_variables (more_trees t ts) =
      omega (
        arith,
        length-pattern_variables t,
        length-all_pattern_variables ts,
        length-append (pattern_variables t) (all_pattern_variables ts),
      )

-- a pattern has no more variables than nodes
pub length-variable_names : (t : Tree) → length (variable_names t) ≤ nodes t
length-variable_names t =
    omega (
      arith,
      length-firsts_after [] (names_of (pattern_variables t)),
      length-names_of (pattern_variables t),
      length-pattern_variables t,
    )

-- a pattern whose count is no greater than the limit of variables isn't large
pub few-counted : (p : Tree) → counted (has_large_default p) (nodes p) ≤ MAX_VARIABLES → is_large_pattern p ≡ false
few-counted p few = by_large (has_large_default p) refl few
  where
    no_or : (a b c : Bool) → a ≡ false → b ≡ false → c ≡ false → (a || (b || c)) ≡ false
    no_or a b c p q r = rw (p, q, r) refl

    by_large : (large : Bool) → has_large_default p ≡ large → counted large (nodes p) ≤ MAX_VARIABLES
        → is_large_pattern p ≡ false
    by_large true e h = absurd (omega (arith, h))
    by_large false e h =
        no_or (nat_lt MAX_PATTERN_NODES (nodes p)) (nat_lt MAX_VARIABLES (length (variable_names p)))
        (has_large_default p) (le-ltb MAX_PATTERN_NODES (nodes p) (omega (arith, h)))
        (le-ltb MAX_VARIABLES (length (variable_names p)) (omega (arith, h, length-variable_names p))) e
