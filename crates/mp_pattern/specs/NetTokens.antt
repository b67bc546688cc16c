-- The net tokens of a pattern: what a walk over a subject reads, with the variables by their numbers.
use Rattle.std.specs.Prelude.{ℕ, ◌+◌, nat_eq, Bool, true, false, ◌&&◌, List, [], ◌∷◌, ◌++◌, Option, Some, None}
use Rattle.std.specs.Prelude.{option_map, decimal, if◌then◌else◌}
use Rattle.std.specs.Ordering.{eq_by_cmp}
use Rattle.mp_term.specs.Signature.{Sig, is_comm}
use Rattle.mp_pattern.specs.PatternTree.{Wildcard, Pattern, symbol_pattern, app_pattern, wild_pattern, Patterns}
use Rattle.mp_pattern.specs.PatternTree.{no_patterns, more_patterns}
use Rattle.mp_pattern.specs.Order.{pattern_cmp}
use Rattle.mp_pattern.specs.Value.{same_name}
use Rattle.mp_pattern.specs.Variables.{variables}

-- a symbol; the begin and the end of an application of an operation that isn't commutative; a wildcard with the number
-- of its variable; or a whole application of a commutative operation
pub data NetToken : Type 0 where
  sym_token : List ℕ → NetToken
  enter_token : ℕ → NetToken
  leave_token : ℕ → NetToken
  wild_token : Wildcard → Option ℕ → NetToken
  comm_token : Pattern → NetToken

-- how many names stand before x
abbrev pub number_in : List (List ℕ) → List ℕ → ℕ
number_in [] x = 0
number_in (y ∷ ys) x = if same_name y x then 0 else number_in ys x + 1

-- `v` and a number in decimal
abbrev pub numbered : ℕ → List ℕ
numbered n = 118 ∷ decimal n

module _ (xs : List (List ℕ)) where
  abbrev mutual
    -- the pattern with its variables, which are among xs, named by their numbers
    pub renamed : Pattern → Pattern
    renamed (symbol_pattern n) = symbol_pattern n
    renamed (app_pattern f ps) = app_pattern f (all_renamed ps)
    renamed (wild_pattern w x) = wild_pattern w (option_map (λ y. numbered (number_in xs y)) x)

    -- so each pattern of a list
    pub all_renamed : Patterns → Patterns
    all_renamed no_patterns = no_patterns
    all_renamed (more_patterns p ps) = more_patterns (renamed p) (all_renamed ps)

module _ (sig : Sig) (xs : List (List ℕ)) where
  abbrev mutual
    -- the tokens of a pattern, where xs are the variables of the whole pattern in order of first occurrence
    pub tokens : Pattern → List NetToken
    tokens (symbol_pattern n) = sym_token n ∷ []
    tokens (wild_pattern w x) = wild_token w (option_map (number_in xs) x) ∷ []
    tokens (app_pattern f ps) =
        if is_comm sig f then comm_token (renamed xs (app_pattern f ps)) ∷ []
        else (enter_token f ∷ (all_tokens ps ++ (leave_token f ∷ [])))

    -- those of the patterns of a list, one after another
    pub all_tokens : Patterns → List NetToken
    all_tokens no_patterns = []
    all_tokens (more_patterns p ps) = tokens p ++ all_tokens ps

-- the tokens of the pattern of a rule
abbrev pub tokens_of : Sig → Pattern → List NetToken
tokens_of sig p = tokens sig (variables p) p

-- the patterns are equal
abbrev pub same_pattern : Pattern → Pattern → Bool
same_pattern = eq_by_cmp pattern_cmp

-- the numbers are equal, or both are missing
abbrev pub same_number : Option ℕ → Option ℕ → Bool
same_number None None = true
same_number (Some m) (Some n) = nat_eq m n
same_number _ _ = false

-- the tokens are equal
abbrev pub same_token : NetToken → NetToken → Bool
same_token (sym_token m) (sym_token n) = same_name m n
same_token (enter_token f) (enter_token g) = nat_eq f g
same_token (leave_token f) (leave_token g) = nat_eq f g
same_token (wild_token v x) (wild_token w y) = same_pattern (wild_pattern v None) (wild_pattern w None)
    && same_number x y
same_token (comm_token p) (comm_token q) = same_pattern p q
same_token _ _ = false
