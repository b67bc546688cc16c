-- The term order is a total order, and a tree is equal in it to itself alone.
use Rattle.std.proofs.Common.{◌≡◌, ℕ, List, [], ◌∷◌, length, refl, ap, sym, ◌∙◌, subst}
use Rattle.std.specs.declared.cmp.Ordering.{Ordering}
use Rattle.std.specs.declared.cmp.Ordering.TheVariants.{Less, Equal, Greater}
use Rattle.std.specs.Ordering.{ordering_then, nat_cmp}
use Rattle.std.specs.Cmp.{IsTotalOrder}
use Rattle.std.specs.FinMap.{nat_cmp-IsAntisymmetric, slice_cmp-IsAntisymmetric}
use Rattle.std.specs.Cmp.Lexicographic.{slice_cmp}
use Rattle.std.proofs.lemmas.Cmp.{nat_cmp_total, nat_list_cmp_total, tied_itself, lists_total, on_total, then_total}
use Rattle.mp_term.specs.Tree.{Tree, symbol, app, Trees, no_trees, more_trees, tree_list, trees}
use Rattle.mp_term.specs.Order.{tree_cmp, trees_cmp, shortlex}
use Rattle.mp_term.specs.TreeLists.{tree_list-trees}
use Rattle.mp_term.specs.Code.{tokens, all_tokens, tree_of, tree_of-tokens}

pub ordering_then-equal : (a : Ordering) → ordering_then a Equal ≡ a
ordering_then-equal Less = refl
ordering_then-equal Equal = refl
ordering_then-equal Greater = refl

-- three comparisons in turn
pub then_then : (a b c : Ordering) → ordering_then (ordering_then a b) c ≡ ordering_then a (ordering_then b c)
then_then Less b c = refl
then_then Equal b c = refl
then_then Greater b c = refl

-- two comparisons in turn are equal where both are
pub both_equal : (a b : Ordering) → ordering_then a b ≡ Equal → (a ≡ Equal) × (b ≡ Equal)
both_equal Less b e = cc
both_equal Equal b e = (refl, e)
both_equal Greater b e = cc

pub nat_same : (m n : ℕ) → nat_cmp m n ≡ Equal → m ≡ n
nat_same = nat_cmp-IsAntisymmetric

pub nats_same : (xs ys : List ℕ) → slice_cmp nat_cmp xs ys ≡ Equal → xs ≡ ys
nats_same = slice_cmp-IsAntisymmetric nat_cmp-IsAntisymmetric

-- an order is total where it is that of the keys in a total order
pub keyed_total : {K J : Type 0} (key : K → J) {R : J → J → Ordering} (cmp : K → K → Ordering) → IsTotalOrder R
    → ((x y : K) → cmp x y ≡ R (key x) (key y)) → IsTotalOrder cmp
keyed_total key {R} cmp o h =
    let same : (λ x y. R (key x) (key y)) ≡ cmp = λ i x y. sym (h x y) i in
    subst IsTotalOrder same (on_total key o)

-- lists of numbers from the left
abbrev token_cmp : List (List ℕ) → List (List ℕ) → Ordering
token_cmp = slice_cmp (slice_cmp nat_cmp)

mutual
  -- trees compare as their tokens do
  by_tokens : (x y : Tree) (r s : List (List ℕ))
      → token_cmp (tokens x r) (tokens y s) ≡ ordering_then (tree_cmp x y) (token_cmp r s)
  by_tokens (symbol m) (symbol n) r s = refl
  by_tokens (symbol m) (app g us) r s = refl
  by_tokens (app f ts) (symbol n) r s = refl
  by_tokens (app f ts) (app g us) r s =
      let many = nat_cmp (length (tree_list ts)) (length (tree_list us)) in
      rw (
        all_by_tokens ts us r s,
        ordering_then-equal many,
        then_then (nat_cmp f g) many (ordering_then (trees_cmp ts us) (token_cmp r s)),
        then_then (nat_cmp f g) (ordering_then many (trees_cmp ts us)) (token_cmp r s),
        then_then many (trees_cmp ts us) (token_cmp r s),
      ) refl

  all_by_tokens : (xs ys : Trees) (r s : List (List ℕ))
      → token_cmp (all_tokens xs r) (all_tokens ys s) ≡ ordering_then (trees_cmp xs ys) (token_cmp r s)
  all_by_tokens no_trees no_trees r s = refl
  all_by_tokens no_trees (more_trees (symbol n) us) r s = refl
  all_by_tokens no_trees (more_trees (app g vs) us) r s = refl
  all_by_tokens (more_trees (symbol m) ts) no_trees r s = refl
  all_by_tokens (more_trees (app f vs) ts) no_trees r s = refl
  all_by_tokens (more_trees t ts) (more_trees u us) r s =
      by_tokens t u (all_tokens ts r) (all_tokens us s)
      ∙ ap (ordering_then (tree_cmp t u)) (all_by_tokens ts us r s)
      ∙ sym (then_then (tree_cmp t u) (trees_cmp ts us) (token_cmp r s))

tree_cmp-tokens : (x y : Tree) → tree_cmp x y ≡ token_cmp (tokens x []) (tokens y [])
tree_cmp-tokens x y = sym (by_tokens x y [] [] ∙ ordering_then-equal (tree_cmp x y))

-- the term order is total
pub tree_cmp_total : IsTotalOrder tree_cmp
tree_cmp_total = keyed_total (λ t. tokens t []) tree_cmp (lists_total nat_list_cmp_total) tree_cmp-tokens

-- and so is shortlex by a total order
pub shortlex_total : {X : Type 0} {cmp : X → X → Ordering} → IsTotalOrder cmp → IsTotalOrder (shortlex cmp)
shortlex_total o = then_total (on_total length nat_cmp_total) (lists_total o)

pub tree_same : (x y : Tree) → tree_cmp x y ≡ Equal → x ≡ y
tree_same x y e =
    let same = slice_cmp-IsAntisymmetric nats_same (tokens x []) (tokens y []) (sym (tree_cmp-tokens x y) ∙ e) in
    sym (tree_of-tokens x) ∙ ap tree_of same ∙ tree_of-tokens y

-- item by item is `slice_cmp`
pub trees_cmp-trees : (xs ys : List Tree) → trees_cmp (trees xs) (trees ys) ≡ slice_cmp tree_cmp xs ys
trees_cmp-trees [] [] = refl
trees_cmp-trees [] (y ∷ ys) = refl
trees_cmp-trees (x ∷ xs) [] = refl
trees_cmp-trees (x ∷ xs) (y ∷ ys) = ap (ordering_then (tree_cmp x y)) (trees_cmp-trees xs ys)

-- two applications, with their arguments as lists
pub app_cmp : (f g : ℕ) (xs ys : List Tree)
    → tree_cmp (app f (trees xs)) (app g (trees ys)) ≡ ordering_then (nat_cmp f g) (shortlex tree_cmp xs ys)
app_cmp f g xs ys = rw (tree_list-trees xs, tree_list-trees ys, trees_cmp-trees xs ys) refl

pub app_cmp-same_head : (f g : ℕ) (xs ys : List Tree) → f ≡ g
    → tree_cmp (app f (trees xs)) (app g (trees ys)) ≡ shortlex tree_cmp xs ys
app_cmp-same_head f g xs ys e = rw (app_cmp f g xs ys, ← e, tied_itself nat_cmp_total f) refl
