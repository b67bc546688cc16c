-- A tree after edits, all of which are made at once.
use Rattle.std.specs.Prelude.{ℕ, suc, List, [], ◌∷◌, ◌++◌, Option, find, bytes_eq, option_map, unwrap_or}
use Rattle.mp_term.specs.declared.edit.Edit.{Edit}
use Rattle.mp_term.specs.Tree.{Tree, symbol, app, Trees, no_trees, more_trees, trees}

module _ (es : List Edit) where
  -- the new terms at a position: those of the first edit there
  abbrev pub new_terms : List ℕ → Option (List Tree)
  new_terms p = option_map (λ e. e.terms) (find (λ e. bytes_eq e.position p) es)

  -- what stands at a position: the new terms there, or else t
  abbrev pub put_in : List ℕ → Tree → List Tree
  put_in p t = unwrap_or (new_terms p) (t ∷ [])

  abbrev mutual
    -- the tree at position p with the edits below it
    pub edited_below : List ℕ → Tree → Tree
    edited_below p (symbol n) = symbol n
    edited_below p (app f ts) = app f (trees (edited_args p 0 ts))

    -- its arguments from index i on, each by what stands in its place
    pub edited_args : List ℕ → ℕ → Trees → List Tree
    edited_args p i no_trees = []
    edited_args p i (more_trees t ts) = put_in (p ++ i ∷ []) (edited_below (p ++ i ∷ []) t) ++ edited_args p (suc i) ts

  -- what stands in place of the tree at position p after all edits
  abbrev pub edited_at : List ℕ → Tree → List Tree
  edited_at p t = put_in p (edited_below p t)

  -- what a tree becomes by the edits, before it is normalised: one tree, unless an edit at the root gives another
  -- number
  abbrev pub edited : Tree → List Tree
  edited = edited_at []

-- the edit that puts a tree at a position, as a list
abbrev pub one_edit : List ℕ → Tree → List Edit
one_edit p t = record { position = p; terms = t ∷ [] } ∷ []
