-- The term order, and shortlex on lists.
use Rattle.std.specs.Prelude.{List, length}
use Rattle.std.specs.declared.cmp.Ordering.{Ordering}
use Rattle.std.specs.declared.cmp.Ordering.TheVariants.{Less, Equal, Greater}
use Rattle.std.specs.Ordering.{ordering_then, nat_cmp}
use Rattle.std.specs.Cmp.Lexicographic.{slice_cmp}
use Rattle.mp_term.specs.Tree.{Tree, symbol, app, Trees, no_trees, more_trees, tree_list}

-- the shorter list first, and lists of one length item by item from the left
abbrev pub shortlex : {X : Type 0} → (X → X → Ordering) → List X → List X → Ordering
shortlex cmp xs ys = ordering_then (nat_cmp (length xs) (length ys)) (slice_cmp cmp xs ys)

-- Symbols come before applications, and compare by their bytes. Applications compare by declaration number, then by
-- number of arguments, then argument by argument.
abbrev mutual
  pub tree_cmp : Tree → Tree → Ordering
  tree_cmp (symbol m) (symbol n) = slice_cmp nat_cmp m n
  tree_cmp (symbol m) (app g us) = Less
  tree_cmp (app f ts) (symbol n) = Greater
  tree_cmp (app f ts) (app g us) = ordering_then (nat_cmp f g)
      (ordering_then (nat_cmp (length (tree_list ts)) (length (tree_list us))) (trees_cmp ts us))

  -- item by item: `slice_cmp tree_cmp`
  pub trees_cmp : Trees → Trees → Ordering
  trees_cmp no_trees no_trees = Equal
  trees_cmp no_trees (more_trees u us) = Less
  trees_cmp (more_trees t ts) no_trees = Greater
  trees_cmp (more_trees t ts) (more_trees u us) = ordering_then (tree_cmp t u) (trees_cmp ts us)
