-- The subterms of trees in preorder, a subterm as often as it occurs.
use Rattle.std.specs.Prelude.{List, [], ◌∷◌, ◌++◌}
use Rattle.mp_term.specs.Tree.{Tree, symbol, app, Trees, no_trees, more_trees, trees}

abbrev mutual
  -- the subterms of a tree
  pub preorder : Tree → List Tree
  preorder (symbol n) = symbol n ∷ []
  preorder (app f ts) = app f ts ∷ preorders ts

  -- those of the trees of a list, one tree after another
  pub preorders : Trees → List Tree
  preorders no_trees = []
  preorders (more_trees t ts) = preorder t ++ preorders ts

-- the same of a `List`
abbrev pub all_preorder : List Tree → List Tree
all_preorder ts = preorders (trees ts)
