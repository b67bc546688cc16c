-- How many nodes terms have: the measure of a recursion over terms in another crate.
use Rattle.std.proofs.Common.{ℕ, zero, suc, ◌<◌, ◌≤◌, List, [], ◌∷◌, length, get_or, map, arith}
use Rattle.mp_term.specs.Tree.{Tree, symbol, app}
use Rattle.mp_term.specs.Size.{node_count, all_nodes}

-- a term has a node
pub some-nodes : (t : Tree) → 1 ≤ node_count t
some-nodes (symbol n) = omega arith
some-nodes (app f ts) = omega arith

-- an argument has fewer nodes than the application
pub node_count-element : {X : Type 0} (f : X → Tree) (xs : List X) (i : ℕ) (d : X) → i < length xs
    → node_count (f (get_or xs i d)) ≤ all_nodes (map f xs)
node_count-element f [] i d h = absurd (omega arith)
node_count-element f (x ∷ xs) zero d h = omega arith
node_count-element f (x ∷ xs) (suc i) d h = omega (arith, node_count-element f xs i d (omega arith))
