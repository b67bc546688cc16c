-- The subterms of trees, and the arguments of a tree.
use Rattle.std.specs.Prelude.{◌≡◌, ◌⊎◌, ℕ, List, [], ◌∷◌, Some}
use Rattle.mp_term.specs.Tree.{Tree, symbol, app, tree_list}
use Rattle.mp_term.specs.Positions.{subterm}

-- u stands at a position of t
abbrev pub IsSubterm : Tree → Tree → Type 0
IsSubterm t u = (position : List ℕ) × (subterm t position ≡ Some u)

-- u is a subterm of one of the trees
abbrev pub IsSubtermOf : List Tree → Tree → Type 0
IsSubtermOf [] u = ⊥
IsSubtermOf (t ∷ ts) u = IsSubterm t u ⊎ IsSubtermOf ts u

-- the arguments of an application: a symbol has none
abbrev pub arguments : Tree → List Tree
arguments (symbol n) = []
arguments (app f ts) = tree_list ts
