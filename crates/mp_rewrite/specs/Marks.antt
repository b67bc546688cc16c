-- The plain marks that contracts see of what is known of a term, and lists of them.
use Rattle.std.proofs.Common.{◌≡◌, List, [], ◌∷◌, refl, ap}
use Rattle.std.specs.Coded.{Coded, code_by}
use Rattle.mp_term.specs.Tree.{Tree, symbol, app, Trees, no_trees, more_trees}
use Rattle.mp_term.specs.Code.{coded_tree}

mutual
  -- nothing, that no position is live, or what is known of each argument
  pub data Mark : Type 0 where
    unknown : Mark
    dead : Mark
    inner : Marks → Mark

  -- a list of marks
  pub data Marks : Type 0 where
    no_marks : Marks
    more_marks : Mark → Marks → Marks

-- a `List` as marks
abbrev pub marks : List Mark → Marks
marks [] = no_marks
marks (m ∷ ms) = more_marks m (marks ms)

abbrev mutual
  -- a mark as a tree that gives it back
  pub as_tree : Mark → Tree
  as_tree unknown = symbol []
  as_tree dead = app 0 no_trees
  as_tree (inner ms) = app 0 (more_trees (symbol []) (as_trees ms))

  -- those of a list
  pub as_trees : Marks → Trees
  as_trees no_marks = no_trees
  as_trees (more_marks m ms) = more_trees (as_tree m) (as_trees ms)

abbrev mutual
  -- the mark of a tree
  pub to_mark : Tree → Mark
  to_mark (symbol n) = unknown
  to_mark (app f no_trees) = dead
  to_mark (app f (more_trees t ts)) = inner (to_marks ts)

  -- those of a list
  pub to_marks : Trees → Marks
  to_marks no_trees = no_marks
  to_marks (more_trees t ts) = more_marks (to_mark t) (to_marks ts)

mutual
  pub to_mark-as_tree : (m : Mark) → to_mark (as_tree m) ≡ m
  to_mark-as_tree unknown = refl
  to_mark-as_tree dead = refl
  to_mark-as_tree (inner ms) = ap inner (to_marks-as_trees ms)

  pub to_marks-as_trees : (ms : Marks) → to_marks (as_trees ms) ≡ ms
  to_marks-as_trees no_marks = refl
  to_marks-as_trees (more_marks m ms) =
      λ i. more_marks (to_mark-as_tree m i) (to_marks-as_trees ms i)

-- a mark as its tree
abbrev pub coded_mark : Coded Mark
coded_mark = code_by Tree coded_tree as_tree to_mark to_mark-as_tree
