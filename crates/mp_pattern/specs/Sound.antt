-- What is asked of a pattern before it is normalised.
use Rattle.std.specs.Prelude.{Bool, true, ◌&&◌, is_some, slice_get, ⊤}
use Rattle.mp_term.specs.Signature.{Sig}
use Rattle.mp_term.specs.Normal.{IsNormal}
use Rattle.mp_pattern.specs.EachWildcard.{EachWildcard}
use Rattle.mp_pattern.specs.PatternTree.{Wildcard, optional, Pattern, symbol_pattern, app_pattern, wild_pattern}
use Rattle.mp_pattern.specs.PatternTree.{Patterns, no_patterns, more_patterns}

module _ (sig : Sig) where
  -- the default of an optional wildcard is normal
  abbrev pub DefaultIsNormal : Wildcard → Type 0
  DefaultIsNormal (optional t) = IsNormal sig t
  DefaultIsNormal _ = ⊤

  -- the defaults of a pattern are normal
  abbrev pub DefaultsAreNormal : Pattern → Type 0
  DefaultsAreNormal = EachWildcard DefaultIsNormal

  abbrev mutual
    -- the signature holds each operation of a pattern
    pub holds_ops : Pattern → Bool
    holds_ops (symbol_pattern n) = true
    holds_ops (app_pattern f ps) = is_some (slice_get sig.ops f) && all_hold_ops ps
    holds_ops (wild_pattern w x) = true

    -- and each of each pattern of a list
    pub all_hold_ops : Patterns → Bool
    all_hold_ops no_patterns = true
    all_hold_ops (more_patterns p ps) = holds_ops p && all_hold_ops ps
