-- What a child is known to take, by the substitution so far.
use Rattle.std.specs.Prelude.{ℕ, Bool, true, false, ◌+◌, ◌&&◌, not, List, [], ◌∷◌, ◌++◌, length, take, Option, Some}
use Rattle.std.specs.Prelude.{None}
use Rattle.std.specs.Prelude.{option_map, if◌then◌else◌}
use Rattle.std.specs.Option.{unwrap_or}
use Rattle.mp_term.specs.Order.{tree_cmp}
use Rattle.mp_term.specs.Pieces.{same}
use Rattle.mp_term.specs.Tree.{Tree, symbol}
use Rattle.mp_term.specs.Signature.{Sig}
use Rattle.mp_pattern.specs.PatternTree.{Wildcard, optional, Pattern, symbol_pattern, wild_pattern}
use Rattle.mp_pattern.specs.PatternTree.{Patterns, no_patterns, more_patterns}
use Rattle.mp_pattern.specs.Value.{Value, one, seq, bag, Subst, value_of, same_name}
use Rattle.mp_pattern.specs.Variables.{comm_above}
use Rattle.mp_pattern.specs.Contribution.{contribution}
use Rattle.mp_pattern.specs.Fits.{arranged}
use Rattle.mp_pattern.specs.SoundRule.{sum_most}
use Rattle.mp_theory.specs.Bounds.{least, most}

-- a list of what there is
abbrev pub all_of : {X : Type 0} → Option X → List X
all_of None = []
all_of (Some x) = x ∷ []

-- it is an optional wildcard
abbrev pub is_optional : Wildcard → Bool
is_optional (optional d) = true
is_optional _ = false

module _ (sig : Sig) where
  -- the lists that a wildcard under f may take where its variable has the value, of the terms that are left
  abbrev pub known_lists : Option ℕ → Wildcard → Value → List Tree → List (List Tree)
  known_lists f (optional d) (one t) left =
      (if same tree_cmp d t then [] ∷ [] else []) ++ all_of (contribution sig f t)
  known_lists f w (one t) left = all_of (contribution sig f t)
  known_lists f w (seq ts) left = arranged sig f ts ∷ []
  known_lists f w (bag ts) left = (if comm_above sig f then ts else take (length ts) left) ∷ []

  -- the terms that a value contributes under f, in some order
  abbrev pub contributed : Option ℕ → Value → List Tree
  contributed f (one t) = unwrap_or (contribution sig f t) []
  contributed f (seq ts) = ts
  contributed f (bag ts) = ts

  -- the terms that a child under f is known to take, in some order: a symbol, and what the value of a wildcard's
  -- variable contributes, unless the wildcard is optional
  abbrev pub known : Subst → Option ℕ → Pattern → Option (List Tree)
  known s f (symbol_pattern n) = Some (symbol n ∷ [])
  known s f (wild_pattern w (Some x)) =
      if is_optional w then None else option_map (contributed f) (value_of s x)
  known s f _ = None

  -- those that the children are known to take together
  abbrev pub reserved : Subst → Option ℕ → Patterns → List Tree
  reserved s f no_patterns = []
  reserved s f (more_patterns p ps) = unwrap_or (known s f p) [] ++ reserved s f ps

  -- the least number of terms that a child takes, as far as is known
  abbrev pub least_known : Subst → Option ℕ → Pattern → ℕ
  least_known s f p = elim (known s f p) [ None ↦ least p | Some l ↦ length l ]

  -- that of the children together
  abbrev pub all_least_known : Subst → Option ℕ → Patterns → ℕ
  all_least_known s f no_patterns = 0
  all_least_known s f (more_patterns p ps) = least_known s f p + all_least_known s f ps

  -- the greatest number of terms that a child takes, if there is a bound, as far as is known
  abbrev pub most_known : Subst → Option ℕ → Pattern → Option ℕ
  most_known s f (wild_pattern w (Some x)) = elim (value_of s x) [
    | None ↦ most sig f (wild_pattern w (Some x))
    | Some v ↦ Some (length (contributed f v))
  ]
  most_known s f p = most sig f p

  -- that of the children together
  abbrev pub all_most_known : Subst → Option ℕ → Patterns → Option ℕ
  all_most_known s f no_patterns = Some 0
  all_most_known s f (more_patterns p ps) = sum_most (most_known s f p) (all_most_known s f ps)

-- the child is a wildcard of the variable, and not optional
abbrev pub is_use : List ℕ → Pattern → Bool
is_use x (wild_pattern w (Some y)) = not (is_optional w) && same_name y x
is_use x _ = false

-- how many of the children are
abbrev pub uses_of : List ℕ → Patterns → ℕ
uses_of x no_patterns = 0
uses_of x (more_patterns p ps) = (if is_use x p then 1 else 0) + uses_of x ps

-- the least number of terms that the other children take together, as far as is known
abbrev pub others_least : Sig → List ℕ → Subst → Option ℕ → Patterns → ℕ
others_least sig x s f no_patterns = 0
others_least sig x s f (more_patterns p ps) =
    (if is_use x p then 0 else least_known sig s f p) + others_least sig x s f ps

-- the greatest number that they take together
abbrev pub others_most : Sig → List ℕ → Subst → Option ℕ → Patterns → Option ℕ
others_most sig x s f no_patterns = Some 0
others_most sig x s f (more_patterns p ps) =
    if is_use x p then others_most sig x s f ps else sum_most (most_known sig s f p) (others_most sig x s f ps)
