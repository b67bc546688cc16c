-- How many nodes a pattern has: the length of its take tables.
use Rattle.std.specs.Prelude.{ℕ, ◌+◌, List}
use Rattle.mp_pattern.specs.PatternTree.{Pattern, symbol_pattern, app_pattern, wild_pattern, Patterns, no_patterns}
use Rattle.mp_pattern.specs.PatternTree.{more_patterns, patterns}

abbrev mutual
  -- its symbols, applications and wildcards, a wildcard with its default being one node
  pub pattern_nodes : Pattern → ℕ
  pattern_nodes (symbol_pattern n) = 1
  pattern_nodes (app_pattern f ps) = all_pattern_nodes ps + 1
  pattern_nodes (wild_pattern w x) = 1

  -- those of all patterns of a list
  pub all_pattern_nodes : Patterns → ℕ
  all_pattern_nodes no_patterns = 0
  all_pattern_nodes (more_patterns p ps) = pattern_nodes p + all_pattern_nodes ps

-- the same of a `List`
abbrev pub list_nodes : List Pattern → ℕ
list_nodes ps = all_pattern_nodes (patterns ps)
