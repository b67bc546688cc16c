-- Terms as patterns.
use Rattle.mp_term.specs.Tree.{Tree, symbol, app, Trees, no_trees, more_trees}
use Rattle.mp_pattern.specs.PatternTree.{Pattern, symbol_pattern, app_pattern, Patterns, no_patterns, more_patterns}

abbrev mutual
  -- the pattern that is written as the term
  pub term_pattern : Tree → Pattern
  term_pattern (symbol n) = symbol_pattern n
  term_pattern (app f ts) = app_pattern f (term_patterns ts)

  -- those of all terms of a list
  pub term_patterns : Trees → Patterns
  term_patterns no_trees = no_patterns
  term_patterns (more_trees t ts) = more_patterns (term_pattern t) (term_patterns ts)
