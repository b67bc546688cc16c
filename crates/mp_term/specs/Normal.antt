-- The normal form of a term.
use Rattle.std.specs.Prelude.{◌≡◌, ℕ, List, [], ◌∷◌, flat_map, nat_eq, if◌then◌else◌}
use Rattle.mp_term.specs.Tree.{Tree, symbol, app, Trees, no_trees, more_trees, tree_list, trees}
use Rattle.mp_term.specs.Order.{tree_cmp}
use Rattle.mp_term.specs.Sorting.{sorted}
use Rattle.mp_term.specs.Signature.{Sig, is_assoc, is_comm, is_one}

-- the arguments of t, where f is its head, and else t alone
abbrev pub unwrapped : ℕ → Tree → List Tree
unwrapped f (symbol n) = symbol n ∷ []
unwrapped f (app g ts) = if nat_eq f g then tree_list ts else (app g ts ∷ [])

module _ (sig : Sig) where
  -- what an argument of f gives: its own arguments, where f is associative and its head, and else itself
  abbrev pub parts : ℕ → Tree → List Tree
  parts f t = if is_assoc sig f then unwrapped f t else (t ∷ [])

  -- under an associative operation, each argument of the same head is replaced by its arguments
  abbrev pub flattened : ℕ → List Tree → List Tree
  flattened f ts = flat_map (parts f) ts

  -- the arguments of a commutative operation ascend
  abbrev pub in_order : ℕ → List Tree → List Tree
  in_order f ts = if is_comm sig f then sorted tree_cmp ts else ts

  -- a one-identity operation of one argument is that argument
  abbrev pub collapsed : ℕ → List Tree → Tree
  collapsed f [] = app f no_trees
  collapsed f (t ∷ []) = if is_one sig f then t else app f (more_trees t no_trees)
  collapsed f (t ∷ u ∷ ts) = app f (trees (t ∷ u ∷ ts))

  -- the normal form of a tree, and those of the trees of a list
  abbrev mutual
    pub normal : Tree → Tree
    normal (symbol n) = symbol n
    normal (app f ts) = collapsed f (in_order f (flattened f (normals ts)))

    pub normals : Trees → List Tree
    normals no_trees = []
    normals (more_trees t ts) = normal t ∷ normals ts

  -- the tree is its own normal form
  abbrev pub IsNormal : Tree → Type 0
  IsNormal t = normal t ≡ t
