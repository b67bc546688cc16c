-- The subterms of trees in preorder: how many they are, what stands from a place on, and that they are the subterms.
use Rattle.std.proofs.Common.{◌≡◌, ℕ, zero, suc, ◌+◌, ◌-◌, ◌<◌, ◌≤◌, List, [], ◌∷◌, ◌++◌, map, length, get_or, drop}
use Rattle.std.proofs.Common.{true, false, refl, ap, sym, ◌∙◌, subst, inl, inr, arith, length-append, append_assoc}
use Rattle.std.proofs.Common.{append-nil}
use Rattle.std.specs.Prelude.{None, Some, slice_get, option_and_then, nat_lt}
use Rattle.std.proofs.lemmas.Bool.Decides.{nat_tests}
use Rattle.std.proofs.lemmas.List.{drop-append-le, drop_all, drop_more, get_or-append-add}
use Rattle.mp_term.specs.Listing.{In}
use Rattle.mp_term.specs.Positions.{subterm}
use Rattle.mp_term.specs.Size.{node_count, node_counts, all_nodes}
use Rattle.mp_term.specs.Tree.{Tree, symbol, app, Trees, no_trees, more_trees, tree_list, trees}
use Rattle.mp_term.specs.TreeLists.{trees-tree_list}
use Rattle.mp_term.proofs.SearchLaws.{in-left, in-right, from_in-append}
use Rattle.mp_term.proofs.ListLaws.{get_or-front}
use Rattle.mp_table.specs.Preorder.{preorder, preorders, all_preorder}
use Rattle.mp_table.specs.Subterms.{IsSubterm, IsSubtermOf, arguments}

-- a tree, and then the subterms of its arguments
pub preorder_is : (t : Tree) → preorder t ≡ t ∷ all_preorder (arguments t)
preorder_is (symbol n) = refl
preorder_is (app f ts) = rw trees-tree_list refl

pub node_count_is : (t : Tree) → node_count t ≡ all_nodes (arguments t) + 1
node_count_is (symbol n) = refl
node_count_is (app f ts) = rw trees-tree_list refl

mutual
  -- as many as there are nodes
  pub length-preorder : (t : Tree) → length (preorder t) ≡ node_count t
  length-preorder (symbol n) = refl
  length-preorder (app f ts) = omega (arith, length-preorders ts)

  pub length-preorders : (ts : Trees) → length (preorders ts) ≡ node_counts ts
  length-preorders no_trees = refl
  length-preorders (more_trees t ts) =
      omega (arith, length-preorder t, length-preorders ts, length-append (preorder t) (preorders ts))

-- the subterms of the tree at a place stand from there on
abbrev pub Begins : List Tree → ℕ → Tree → Type 0
Begins os i d = (rest : List Tree) × (drop i os ≡ preorder (get_or os i d) ++ rest)

begins_left : (xs ys : List Tree) (i : ℕ) (d : Tree) → i < length xs → Begins xs i d → Begins (xs ++ ys) i d
begins_left xs ys i d h b = (
  b.0 ++ ys,
  drop-append-le i xs ys (omega arith) ∙ ap (λ l. l ++ ys) b.1 ∙ append_assoc (preorder (get_or xs i d)) b.0 ys
      ∙ ap (λ t. preorder t ++ (b.0 ++ ys)) (sym (get_or-front xs ys i d h)),
)

drop-right : (xs ys : List Tree) (n : ℕ) → drop (length xs + n) (xs ++ ys) ≡ drop n ys
drop-right [] ys n = let e : 0 + n ≡ n = omega arith in ap (λ k. drop k ys) e
drop-right (x ∷ xs) ys n =
    let e : suc (length xs) + n ≡ suc (length xs + n) = omega arith in
    ap (λ k. drop k (x ∷ (xs ++ ys))) e ∙ drop-right xs ys n

begins_right : (xs ys : List Tree) (i j : ℕ) (d : Tree) → i ≡ length xs + j → Begins ys j d → Begins (xs ++ ys) i d
begins_right xs ys i j d e b = (
  b.0,
  ap (λ k. drop k (xs ++ ys)) e ∙ drop-right xs ys j ∙ b.1
      ∙ ap (λ t. preorder t ++ b.0) (sym (ap (λ k. get_or (xs ++ ys) k d) e ∙ get_or-append-add xs ys j d)),
)

mutual
  pub begins : (t : Tree) (i : ℕ) (d : Tree) → i < node_count t → Begins (preorder t) i d
  begins (symbol n) zero d h = ([], refl)
  begins (symbol n) (suc i) d h = absurd (omega arith)
  begins (app f ts) zero d h = ([], sym (append-nil (app f ts ∷ preorders ts)))
  begins (app f ts) (suc i) d h = all_begin ts i d (omega arith)

  pub all_begin : (ts : Trees) (i : ℕ) (d : Tree) → i < node_counts ts → Begins (preorders ts) i d
  all_begin no_trees i d h = absurd (omega arith)
  all_begin (more_trees t ts) i d h =
      elim (nat_lt i (node_count t)) as (λ b. nat_lt i (node_count t) ≡ b → Begins (preorder t ++ preorders ts) i d) [
        | true ↦ λ e.
            let k : i < node_count t = grind (arith, nat_tests) in
            begins_left (preorder t) (preorders ts) i d (omega (arith, length-preorder t)) (begins t i d k)
        | false ↦ λ e.
            let k : node_count t ≤ i = grind (arith, nat_tests) in
            begins_right (preorder t) (preorders ts) i (i - node_count t) d (omega (arith, length-preorder t))
            (all_begin ts (i - node_count t) d (omega arith))
      ] refl

-- a subterm of an argument
abbrev Below : Trees → Tree → Type 0
Below ts u = (i : ℕ) × (v : Tree) × (slice_get (tree_list ts) i ≡ Some v) × IsSubterm v u

below_next : (t : Tree) (ts : Trees) (u : Tree) → Below ts u → Below (more_trees t ts) u
below_next t ts u b = (suc b.0, b.1, b.2, b.3)

mutual
  pub subterm-from_in : (t u : Tree) → In u (preorder t) → IsSubterm t u
  subterm-from_in (symbol n) u (inl e) = ([], ap Some (sym e))
  subterm-from_in (symbol n) u (inr h) = absurd h
  subterm-from_in (app f ts) u (inl e) = ([], ap Some (sym e))
  subterm-from_in (app f ts) u (inr h) =
      let b = below-from_in ts u h in
      (b.0 ∷ b.3.0, ap (option_and_then (λ v. subterm v b.3.0)) b.2 ∙ b.3.1)

  below-from_in : (ts : Trees) (u : Tree) → In u (preorders ts) → Below ts u
  below-from_in no_trees u h = absurd h
  below-from_in (more_trees t ts) u h = elim (from_in-append u (preorder t) (preorders ts) h) [
    | inl k ↦ (0, t, refl, subterm-from_in t u k)
    | inr k ↦ below_next t ts u (below-from_in ts u k)
  ]

-- a tree is the first of its subterms
pub in-itself : (t : Tree) → In t (preorder t)
in-itself (symbol n) = inl refl
in-itself (app f ts) = inl refl

in-argument : (ts : Trees) (i : ℕ) (v u : Tree) → slice_get (tree_list ts) i ≡ Some v → In u (preorder v)
    → In u (preorders ts)
in-argument no_trees i v u e h = cc
in-argument (more_trees t ts) zero v u e h =
    let same : t ≡ v = cc in in-left u (preorder t) (preorders ts) (subst (λ w. In u (preorder w)) (sym same) h)
in-argument (more_trees t ts) (suc i) v u e h = in-right u (preorder t) (preorders ts) (in-argument ts i v u e h)

pub in-from_subterm : (p : List ℕ) (t u : Tree) → subterm t p ≡ Some u → In u (preorder t)
in-from_subterm [] t u e = let same : t ≡ u = cc in subst (λ w. In w (preorder t)) same (in-itself t)
in-from_subterm (i ∷ p) (symbol n) u e = cc
in-from_subterm (i ∷ p) (app f ts) u e =
    elim (slice_get (tree_list ts) i) as (λ o. slice_get (tree_list ts) i ≡ o
    → option_and_then (λ v. subterm v p) o ≡ Some u → In u (app f ts ∷ preorders ts)) [
      | None ↦ λ k q. cc
      | Some v ↦ λ k q. inr (in-argument ts i v u k (in-from_subterm p v u q))
    ] refl e

-- what holds of the subterms of some trees
pub subterm_of-from_in : (ts : List Tree) (u : Tree) → In u (all_preorder ts) → IsSubtermOf ts u
subterm_of-from_in [] u h = h
subterm_of-from_in (t ∷ ts) u h = elim (from_in-append u (preorder t) (all_preorder ts) h) [
  | inl k ↦ inl (subterm-from_in t u k)
  | inr k ↦ inr (subterm_of-from_in ts u k)
]

pub in-from_subterm_of : (ts : List Tree) (u : Tree) → IsSubtermOf ts u → In u (all_preorder ts)
in-from_subterm_of [] u h = h
in-from_subterm_of (t ∷ ts) u (inl s) = in-left u (preorder t) (all_preorder ts) (in-from_subterm s.0 t u s.1)
in-from_subterm_of (t ∷ ts) u (inr h) = in-right u (preorder t) (all_preorder ts) (in-from_subterm_of ts u h)

pub length-all_preorder : (ts : List Tree) → length (all_preorder ts) ≡ all_nodes ts
length-all_preorder ts = length-preorders (trees ts)

-- a loop over a list adds what F gives of it: at its end, and at an item
pub at_end : {X Y : Type 0} (F : List Y → List X) → F [] ≡ [] → (xs total : List X) (items : List Y) (n : ℕ)
    → length items ≤ n → xs ++ F (drop n items) ≡ total → xs ≡ total
at_end F nothing xs total items n h e =
    sym (append-nil xs) ∙ ap (λ l. xs ++ l) (sym nothing) ∙ ap (λ l. xs ++ F l) (sym (drop_all n items h)) ∙ e

-- the nodes that are left hold those of the next term
pub next_within : {Y : Type 0} (f : Y → Tree) (items : List Y) (n : ℕ) (d : Y) → n < length items
    → node_count (f (get_or items n d)) ≤ all_nodes (map f (drop n items))
next_within f items n d h = rw (drop_more items n d h) (omega arith)
