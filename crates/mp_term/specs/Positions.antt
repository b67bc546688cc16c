-- The subterm at a position.
use Rattle.std.specs.Prelude.{ℕ, List, [], ◌∷◌, Option, Some, None, slice_get, option_and_then}
use Rattle.mp_term.specs.Tree.{Tree, symbol, app, tree_list}

-- the subterm that is reached from the root by taking argument after argument, each by its index from 0
abbrev pub subterm : Tree → List ℕ → Option Tree
subterm t [] = Some t
subterm (symbol n) (i ∷ rest) = None
subterm (app f ts) (i ∷ rest) = option_and_then (λ t. subterm t rest) (slice_get (tree_list ts) i)
