-- What one rule alone does with a tree.
use Rattle.std.specs.Prelude.{List, [], ◌∷◌, length, Option, Some, None, option_and_then, if◌then◌else◌}
use Rattle.mp_term.specs.Tree.{Tree, symbol, app, Trees, no_trees, more_trees, tree_list}
use Rattle.mp_net.specs.Net.{Mark, named, entered, anything, same_mark}

abbrev mutual
  -- what is still asked behind the tree, where it has what is asked of it
  pub eaten : Tree → List Mark → Option (List Mark)
  eaten (symbol n) [] = None
  eaten (symbol n) (named k ∷ m) = if same_mark (named k) (named n) then Some m else None
  eaten (symbol n) (entered g k ∷ m) = None
  eaten (symbol n) (anything ∷ m) = Some m
  eaten (app f ts) [] = None
  eaten (app f ts) (named k ∷ m) = None
  eaten (app f ts) (entered g k ∷ m) =
      if same_mark (entered g k) (entered f (length (tree_list ts))) then all_eaten ts m else None
  eaten (app f ts) (anything ∷ m) = Some m

  pub all_eaten : Trees → List Mark → Option (List Mark)
  all_eaten no_trees m = Some m
  all_eaten (more_trees t ts) m = option_and_then (all_eaten ts) (eaten t m)
