-- A tree with one subterm replaced.
use Rattle.std.specs.Prelude.{ℕ, zero, suc, List, [], ◌∷◌}
use Rattle.mp_term.specs.Tree.{Tree, symbol, app, Trees, no_trees, more_trees}

abbrev mutual
  -- t with u in place of the subterm at the position, and t itself where there is no such subterm
  pub replaced : List ℕ → Tree → Tree → Tree
  replaced [] u t = u
  replaced (i ∷ p) u (symbol n) = symbol n
  replaced (i ∷ p) u (app f ts) = app f (replaced_argument i p u ts)

  -- the trees with u in place of the subterm at a position of the i-th
  pub replaced_argument : ℕ → List ℕ → Tree → Trees → Trees
  replaced_argument i p u no_trees = no_trees
  replaced_argument zero p u (more_trees t ts) = more_trees (replaced p u t) ts
  replaced_argument (suc i) p u (more_trees t ts) = more_trees t (replaced_argument i p u ts)
