-- How many symbols and applications a tree has, and how deep it is.
use Rattle.std.specs.Prelude.{ℕ, ◌+◌, max, List}
use Rattle.mp_term.specs.Tree.{Tree, symbol, app, Trees, no_trees, more_trees, trees}

-- the symbols and applications of a tree, and of a list of trees
abbrev mutual
  pub node_count : Tree → ℕ
  node_count (symbol n) = 1
  node_count (app f ts) = node_counts ts + 1

  pub node_counts : Trees → ℕ
  node_counts no_trees = 0
  node_counts (more_trees t ts) = node_count t + node_counts ts

-- the nodes of all trees of a list
abbrev pub all_nodes : List Tree → ℕ
all_nodes ts = node_counts (trees ts)

-- a symbol has the depth 0, and an application one more than the greatest depth of its arguments
abbrev mutual
  pub depth : Tree → ℕ
  depth (symbol n) = 0
  depth (app f ts) = greatest_depth ts + 1

  pub greatest_depth : Trees → ℕ
  greatest_depth no_trees = 0
  greatest_depth (more_trees t ts) = max (depth t) (greatest_depth ts)
