-- One step down from the root.
use Rattle.std.proofs.Common.{◌≡◌, ℕ, ◌+◌, ◌<◌, List, length, get_or, drop, drop-cons, add-one, refl}
use Rattle.std.specs.Prelude.{None, slice_get, option_and_then}
use Rattle.mp_term.specs.Tree.{Tree, symbol, app, trees}
use Rattle.mp_term.specs.TreeLists.{tree_list-trees}
use Rattle.mp_term.specs.Positions.{subterm}

pub subterm-symbol : (n p : List ℕ) (i : ℕ) → i < length p → subterm (symbol n) (drop i p) ≡ None
subterm-symbol n p i h = rw (drop-cons p i 0) refl

pub subterm-app : (f : ℕ) (ts : List Tree) (p : List ℕ) (i : ℕ) → i < length p
    → subterm (app f (trees ts)) (drop i p) ≡ option_and_then (λ t. subterm t (drop (i + 1) p))
    (slice_get ts (get_or p i 0))
subterm-app f ts p i h = rw (drop-cons p i 0, tree_list-trees ts, add-one) refl
