-- The parts of a pattern.
use Rattle.std.specs.Prelude.{List, [], ◌∷◌, ◌++◌}
use Rattle.mp_pattern.specs.PatternTree.{Pattern, symbol_pattern, app_pattern, wild_pattern, Patterns, no_patterns}
use Rattle.mp_pattern.specs.PatternTree.{more_patterns}

abbrev mutual
  -- the pattern and, for an application, those of its arguments, in preorder
  pub subpatterns : Pattern → List Pattern
  subpatterns (symbol_pattern n) = symbol_pattern n ∷ []
  subpatterns (app_pattern f ps) = app_pattern f ps ∷ all_subpatterns ps
  subpatterns (wild_pattern w x) = wild_pattern w x ∷ []

  -- those of all patterns of a list
  pub all_subpatterns : Patterns → List Pattern
  all_subpatterns no_patterns = []
  all_subpatterns (more_patterns p ps) = subpatterns p ++ all_subpatterns ps
