-- The names at the wildcards of a pattern.
use Rattle.std.specs.Prelude.{ℕ, List, [], ◌∷◌, ◌++◌, Some, None}
use Rattle.mp_pattern.specs.PatternTree.{Pattern, symbol_pattern, app_pattern, wild_pattern, Patterns, no_patterns}
use Rattle.mp_pattern.specs.PatternTree.{more_patterns}

abbrev mutual
  -- the names in preorder, each as often as it stands
  pub used_names : Pattern → List (List ℕ)
  used_names (symbol_pattern n) = []
  used_names (app_pattern f ps) = all_used_names ps
  used_names (wild_pattern w None) = []
  used_names (wild_pattern w (Some x)) = x ∷ []

  -- those of the patterns of a list, one after another
  pub all_used_names : Patterns → List (List ℕ)
  all_used_names no_patterns = []
  all_used_names (more_patterns p ps) = used_names p ++ all_used_names ps
