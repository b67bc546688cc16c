-- The plain trees that contracts see in place of terms, and lists of them.
use Rattle.std.specs.Prelude.{ℕ, List, [], ◌∷◌}

mutual
  -- a symbol with the bytes of its name, or an operation's number with its arguments
  pub data Tree : Type 0 where
    symbol : List ℕ → Tree
    app : ℕ → Trees → Tree

  -- a list of trees, which stands here since a type can't hold itself inside `List`
  pub data Trees : Type 0 where
    no_trees : Trees
    more_trees : Tree → Trees → Trees

-- the trees as a `List`
abbrev pub tree_list : Trees → List Tree
tree_list no_trees = []
tree_list (more_trees t ts) = t ∷ tree_list ts

-- a `List` as trees
abbrev pub trees : List Tree → Trees
trees [] = no_trees
trees (t ∷ ts) = more_trees t (trees ts)
