-- The test by which `is_normal` finds a normal form without making it.
use Rattle.std.specs.Prelude.{ℕ, Bool, true, false, ◌&&◌, not, List, [], ◌∷◌, nat_eq}
use Rattle.std.specs.Ordering.{is_gt}
use Rattle.mp_term.specs.Tree.{Tree, symbol, app, Trees, no_trees, more_trees, tree_list}
use Rattle.mp_term.specs.Order.{tree_cmp}
use Rattle.mp_term.specs.Signature.{Sig, is_assoc, is_comm, is_one}

-- the tree is an application of the operation
abbrev pub has_head : ℕ → Tree → Bool
has_head f (symbol n) = false
has_head f (app g ts) = nat_eq f g

-- the list has one item
abbrev pub is_single : List Tree → Bool
is_single [] = false
is_single (t ∷ []) = true
is_single (t ∷ u ∷ ts) = false

-- no tree is greater than the next
abbrev pub ascending : List Tree → Bool
ascending [] = true
ascending (t ∷ []) = true
ascending (t ∷ u ∷ ts) = not (is_gt (tree_cmp t u)) && ascending (u ∷ ts)

module _ (sig : Sig) where
  -- an argument of f is normal, and isn't opened
  abbrev mutual
    pub passes : Tree → Bool
    passes (symbol n) = true
    passes (app f ts) = not (is_one sig f && is_single (tree_list ts))
        && (not (is_comm sig f && not (ascending (tree_list ts))) && all_pass f ts)

    pub all_pass : ℕ → Trees → Bool
    all_pass f no_trees = true
    all_pass f (more_trees t ts) = (passes t && not (is_assoc sig f && has_head f t)) && all_pass f ts
