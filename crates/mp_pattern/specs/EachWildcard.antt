-- What holds of each wildcard of a pattern.
use Rattle.std.specs.Prelude.{⊤}
use Rattle.mp_pattern.specs.PatternTree.{Wildcard, Pattern, symbol_pattern, app_pattern, wild_pattern}
use Rattle.mp_pattern.specs.PatternTree.{Patterns, no_patterns, more_patterns}

module _ (Q : Wildcard → Type 0) where
  abbrev mutual
    -- Q holds of each wildcard of a pattern
    pub EachWildcard : Pattern → Type 0
    EachWildcard (symbol_pattern n) = ⊤
    EachWildcard (app_pattern f ps) = AllEachWildcard ps
    EachWildcard (wild_pattern w x) = Q w

    -- and of each of all patterns of a list
    pub AllEachWildcard : Patterns → Type 0
    AllEachWildcard no_patterns = ⊤
    AllEachWildcard (more_patterns p ps) = EachWildcard p × AllEachWildcard ps
