-- `trees` and `tree_list` undo each other.
use Rattle.std.proofs.Common.{◌≡◌, List, [], ◌∷◌, refl, ap}
use Rattle.mp_term.specs.Tree.{Tree, Trees, no_trees, more_trees, tree_list, trees}

pub tree_list-trees : (ts : List Tree) → tree_list (trees ts) ≡ ts
tree_list-trees [] = refl
tree_list-trees (t ∷ ts) = ap (λ us. t ∷ us) (tree_list-trees ts)

pub trees-tree_list : (ts : Trees) → trees (tree_list ts) ≡ ts
trees-tree_list no_trees = refl
trees-tree_list (more_trees t ts) = ap (more_trees t) (trees-tree_list ts)
