-- Syntactic patterns.
use Rattle.std.specs.Prelude.{ℕ, Bool, true, ◌&&◌, not, slice_get}
use Rattle.mp_term.specs.Signature.{Sig, holds_of}
use Rattle.mp_pattern.specs.PatternTree.{Pattern, symbol_pattern, app_pattern, wild_pattern, Patterns, no_patterns}
use Rattle.mp_pattern.specs.PatternTree.{more_patterns}
use Rattle.mp_pattern.specs.Normal.{is_loose}

module _ (sig : Sig) where
  -- the operation has a fixed count of arguments, and is neither associative nor commutative
  abbrev pub is_plain : ℕ → Bool
  is_plain f = holds_of (λ d. d.fixed && (not d.assoc && not d.comm)) (slice_get sig.ops f)

  abbrev mutual
    -- a pattern without a plus, star, counted or optional wildcard, over such operations
    pub is_syntactic : Pattern → Bool
    is_syntactic (symbol_pattern n) = true
    is_syntactic (app_pattern f ps) = is_plain f && all_syntactic ps
    is_syntactic (wild_pattern w x) = not (is_loose (wild_pattern w x))

    -- each pattern of the list is syntactic
    pub all_syntactic : Patterns → Bool
    all_syntactic no_patterns = true
    all_syntactic (more_patterns p ps) = is_syntactic p && all_syntactic ps
