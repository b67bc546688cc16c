-- How many terms a node may take.
use Rattle.std.specs.Prelude.{List, [], ◌∷◌, ℕ, Option, Some}
use Rattle.mp_term.specs.Tree.{Tree, symbol, app, trees}
use Rattle.mp_term.specs.Signature.{Sig}
use Rattle.mp_pattern.specs.PatternTree.{Pattern, symbol_pattern, app_pattern, wild_pattern, Patterns, no_patterns}
use Rattle.mp_pattern.specs.PatternTree.{more_patterns, pattern_list}
use Rattle.mp_pattern.specs.Variables.{assoc_above}
use Rattle.mp_pattern.specs.SoundRule.{pattern_least, pattern_most, fewest, greatest}
use Rattle.mp_pattern.specs.Fits.{arranged}

-- the least number of terms that a node takes
abbrev pub least : Pattern → ℕ
least = pattern_least

-- the least number of terms that the children take together
abbrev pub all_least : Patterns → ℕ
all_least ps = fewest (pattern_list ps)

module _ (sig : Sig) where
  -- the greatest number of terms that a node under f takes, if there is a bound
  abbrev pub most : Option ℕ → Pattern → Option ℕ
  most f = pattern_most (assoc_above sig f)

  -- the greatest number of terms that the children take together
  abbrev pub all_most : Option ℕ → Patterns → Option ℕ
  all_most f ps = greatest (assoc_above sig f) (pattern_list ps)

abbrev mutual
  -- the term that a pattern without wildcards stands for
  pub ground_tree : Sig → Pattern → Tree
  ground_tree sig (symbol_pattern n) = symbol n
  ground_tree sig (app_pattern g ps) = app g (trees (arranged sig (Some g) (ground_trees sig ps)))
  ground_tree sig (wild_pattern w x) = symbol []

  -- those of the patterns of a list
  pub ground_trees : Sig → Patterns → List Tree
  ground_trees sig no_patterns = []
  ground_trees sig (more_patterns p ps) = ground_tree sig p ∷ ground_trees sig ps
