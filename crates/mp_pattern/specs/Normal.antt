-- The normal form of a pattern.
use Rattle.std.specs.Prelude.{◌≡◌, ℕ, Bool, false, ◌&&◌, not, List, [], ◌∷◌, flat_map, nat_eq, if◌then◌else◌}
use Rattle.mp_term.specs.Sorting.{sorted}
use Rattle.mp_term.specs.Signature.{Sig, is_assoc, is_comm, is_one}
use Rattle.mp_pattern.specs.PatternTree as plain
use Rattle.mp_pattern.specs.PatternTree.{Pattern, symbol_pattern, app_pattern, wild_pattern, Patterns, no_patterns}
use Rattle.mp_pattern.specs.PatternTree.{more_patterns, pattern_list, patterns}
use Rattle.mp_pattern.specs.Order.{pattern_cmp}

-- the arguments of p, where f is its head, and else p alone
abbrev pub unwrapped : ℕ → Pattern → List Pattern
unwrapped f (symbol_pattern n) = symbol_pattern n ∷ []
unwrapped f (app_pattern g ps) = if nat_eq f g then pattern_list ps else (app_pattern g ps ∷ [])
unwrapped f (wild_pattern w x) = wild_pattern w x ∷ []

-- a wildcard that may take no argument or several: plus, star, counted or optional
abbrev pub is_loose : Pattern → Bool
is_loose (wild_pattern w x) = plain.is_loose w
is_loose _ = false

-- one pattern, which isn't loose
abbrev pub is_collapsible : List Pattern → Bool
is_collapsible [] = false
is_collapsible (p ∷ []) = not (is_loose p)
is_collapsible (p ∷ q ∷ ps) = false

module _ (sig : Sig) where
  -- what an argument of f gives: its own arguments, where f is associative and its head, and else itself
  abbrev pub parts : ℕ → Pattern → List Pattern
  parts f p = if is_assoc sig f then unwrapped f p else (p ∷ [])

  -- under an associative operation, each argument of the same head is replaced by its arguments
  abbrev pub flattened : ℕ → List Pattern → List Pattern
  flattened f ps = flat_map (parts f) ps

  -- the arguments of a commutative operation ascend in the pattern order
  abbrev pub in_order : ℕ → List Pattern → List Pattern
  in_order f ps = if is_comm sig f then sorted pattern_cmp ps else ps

  -- a one-identity operation of one argument is that argument, unless the argument is loose
  abbrev pub collapsed : ℕ → List Pattern → Pattern
  collapsed f [] = app_pattern f no_patterns
  collapsed f (p ∷ []) = if is_one sig f && not (is_loose p) then p else app_pattern f (more_patterns p no_patterns)
  collapsed f (p ∷ q ∷ ps) = app_pattern f (patterns (p ∷ q ∷ ps))

  abbrev mutual
    -- the arguments in normal form, flattened, in order, and then the collapse
    pub normal_pattern : Pattern → Pattern
    normal_pattern (symbol_pattern n) = symbol_pattern n
    normal_pattern (app_pattern f ps) = collapsed f (in_order f (flattened f (normal_patterns ps)))
    normal_pattern (wild_pattern w x) = wild_pattern w x

    -- each pattern of the list in normal form
    pub normal_patterns : Patterns → List Pattern
    normal_patterns no_patterns = []
    normal_patterns (more_patterns p ps) = normal_pattern p ∷ normal_patterns ps

  -- the pattern is its own normal form
  abbrev pub IsNormalPattern : Pattern → Type 0
  IsNormalPattern p = normal_pattern p ≡ p
