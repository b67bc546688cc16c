-- A tree with one subterm replaced: by one edit, well formed, and its size.
use Rattle.std.proofs.Common.{◌≡◌, ◌∙◌, refl, ap, sym, ℕ, zero, suc, ◌+◌, ◌≤◌, max, Bool, true, false, arith}
use Rattle.std.proofs.Common.{List, [], ◌∷◌, ◌++◌, length, append_assoc}
use Rattle.std.specs.Prelude.{Option, Some, None, IfSome, slice_get, option_map, option_and_then, bytes_eq}
use Rattle.std.specs.Prelude.{nat_eq, not, cond, if◌then◌else◌}
use Rattle.std.specs.Option.{option_map_or}
use Rattle.std.specs.List.{starts_with}
use Rattle.std.proofs.Math.Bool.{and-false}
use Rattle.std.proofs.lemmas.Bool.{and_parts, and_from}
use Rattle.std.proofs.lemmas.Bool.Decides.{nat_tests}
use Rattle.std.proofs.lemmas.List.{append-nil}
use Rattle.std.proofs.lemmas.Slice.Eq.{bytes_eq-Decides}
use Rattle.mp_term.specs.declared.edit.Edit.{Edit}
use Rattle.mp_term.specs.Tree.{Tree, symbol, app, Trees, no_trees, more_trees, tree_list, trees}
use Rattle.mp_term.specs.TreeLists.{trees-tree_list, tree_list-trees}
use Rattle.mp_term.specs.Size.{node_count, node_counts, depth, greatest_depth}
use Rattle.mp_term.specs.Positions.{subterm}
use Rattle.mp_term.specs.Signature.{Sig, holds_of, allows, well_formed, all_well_formed}
use Rattle.mp_term.specs.Edited.{new_terms, edited_at, edited_args, edited_below, edited}
use Rattle.mp_term.specs.Edited.{one_edit}
use Rattle.mp_term.specs.Replaced.{replaced, replaced_argument}
use Rattle.mp_term.specs.Excess.{excess}
use Rattle.mp_term.specs.EditFault.{above, is_allowed, fault_of, breaks, edit_fault}
use Rattle.mp_term.proofs.EditedLaws.{IsUntouched, untouched, untouched-front, length-kept}

-- ---- one edit

longer-differs : (q r : List ℕ) (i : ℕ) → bytes_eq (q ++ i ∷ r) q ≡ false
longer-differs [] r i = refl
longer-differs (j ∷ q) r i = rw (longer-differs q r i, and-false (nat_eq j j)) refl

other-argument : (q r : List ℕ) (i k : ℕ) → nat_eq k i ≡ false → starts_with nat_eq (q ++ i ∷ r) (q ++ k ∷ []) ≡ false
other-argument [] r i k h = rw h refl
other-argument (j ∷ q) r i k h = rw (other-argument q r i k h, and-false (nat_eq j j)) refl

module _ (p : List ℕ) (u : Tree) where
  abbrev es : List Edit
  es = one_edit p u

  -- the argument that the position goes to aside, no edit stands at or below an argument
  untouched-other : (q r : List ℕ) (i k : ℕ) → p ≡ q ++ i ∷ r → nat_eq k i ≡ false → IsUntouched es (q ++ k ∷ [])
  untouched-other q r i k is other = rw (is, other-argument q r i k other) refl

  replaced-arguments : (q r : List ℕ) (k i n : ℕ) (ts : Trees) → n ≡ k + i → p ≡ q ++ n ∷ r
      → ((t : Tree) → edited_at es (q ++ n ∷ []) t ≡ replaced r u t ∷ [])
      → edited_args es q k ts ≡ tree_list (replaced_argument i r u ts)
  replaced-arguments q r k i n no_trees at is each = refl
  replaced-arguments q r k zero n (more_trees t ts) at is each =
      let here : edited_at es (q ++ k ∷ []) t ≡ replaced r u t ∷ [] =
      ap (λ m. edited_at es (q ++ m ∷ []) t) (omega arith) ∙ each t in
      let rest : edited_args es q (suc k) ts ≡ tree_list ts =
      ap (edited_args es q (suc k)) (sym (trees-tree_list ts) ∙ ap trees (sym (append-nil (tree_list ts))))
      ∙ untouched-front es q (tree_list ts) [] (suc k)
      (λ m low high. untouched-other q r n m is (grind (arith, nat_tests)))
      ∙ append-nil (tree_list ts) in
      λ j. here j ++ rest j
  replaced-arguments q r k (suc i) n (more_trees t ts) at is each =
      let here : edited_at es (q ++ k ∷ []) t ≡ t ∷ [] =
      untouched es (q ++ k ∷ []) t (untouched-other q r n k is (grind (arith, nat_tests))) in
      let rest = replaced-arguments q r (suc k) i n ts (omega arith) is each in
      λ j. here j ++ rest j

  edited-replaced : (r q : List ℕ) (t : Tree) → p ≡ q ++ r → edited_at es q t ≡ replaced r u t ∷ []
  edited-replaced [] q t is =
      let here : bytes_eq p q ≡ true = (bytes_eq-Decides p q).1 (is ∙ append-nil q) in
      rw here refl
  edited-replaced (i ∷ r) q (symbol n) is = rw (is, longer-differs q r i) refl
  edited-replaced (i ∷ r) q (app f ts) is =
      let here : bytes_eq p q ≡ false = ap (λ l. bytes_eq l q) is ∙ longer-differs q r i in
      let args : edited_args es q 0 ts ≡ tree_list (replaced_argument i r u ts) =
      replaced-arguments q r 0 i i ts (omega arith) is
      (λ t. edited-replaced r (q ++ i ∷ []) t (is ∙ sym (append_assoc q (i ∷ []) r))) in
      rw (here, args, trees-tree_list (replaced_argument i r u ts)) refl

-- one edit of one term gives the tree with that term in place of the subterm
pub edited-one : (p : List ℕ) (u t : Tree) → edited (one_edit p u) t ≡ replaced p u t ∷ []
edited-one p u t = edited-replaced p u p [] t refl

-- ---- its size

module _ (u v : Tree) where
  nodes-arguments : (p : List ℕ) (i : ℕ) (ts : Trees)
      → ((t : Tree) → subterm t p ≡ Some v → node_count (replaced p u t) + node_count v ≡ node_count t + node_count u)
      → option_and_then (λ t. subterm t p) (slice_get (tree_list ts) i) ≡ Some v
      → node_counts (replaced_argument i p u ts) + node_count v ≡ node_counts ts + node_count u
  nodes-arguments p i no_trees each h = cc
  nodes-arguments p zero (more_trees t ts) each h = omega (arith, each t h)
  nodes-arguments p (suc i) (more_trees t ts) each h = omega (arith, nodes-arguments p i ts each h)

  -- the nodes of the subterm make way for those of the new term
  pub nodes-replaced : (p : List ℕ) (t : Tree) → subterm t p ≡ Some v
      → node_count (replaced p u t) + node_count v ≡ node_count t + node_count u
  nodes-replaced [] t h = let same : t ≡ v = cc in omega (arith, ap node_count same)
  nodes-replaced (i ∷ p) (symbol n) h = cc
  nodes-replaced (i ∷ p) (app f ts) h = omega (arith, nodes-arguments p i ts (nodes-replaced p) h)

  deep-arguments : (p : List ℕ) (i : ℕ) (ts : Trees)
      → ((t : Tree) → subterm t p ≡ Some v → length p + depth u ≤ depth (replaced p u t))
      → option_and_then (λ t. subterm t p) (slice_get (tree_list ts) i) ≡ Some v
      → length p + depth u ≤ greatest_depth (replaced_argument i p u ts)
  deep-arguments p i no_trees each h = cc
  deep-arguments p zero (more_trees t ts) each h = omega (arith, each t h)
  deep-arguments p (suc i) (more_trees t ts) each h = omega (arith, deep-arguments p i ts each h)

  -- the new term reaches as deep as it stands
  pub deep-replaced : (p : List ℕ) (t : Tree) → subterm t p ≡ Some v
      → length p + depth u ≤ depth (replaced p u t)
  deep-replaced [] t h = omega arith
  deep-replaced (i ∷ p) (symbol n) h = cc
  deep-replaced (i ∷ p) (app f ts) h = omega (arith, deep-arguments p i ts (deep-replaced p) h)

shallow-arguments : (p : List ℕ) (u : Tree) (i : ℕ) (ts : Trees)
    → ((t : Tree) → depth (replaced p u t) ≤ max (depth t) (length p + depth u))
    → greatest_depth (replaced_argument i p u ts) ≤ max (greatest_depth ts) (length p + depth u)
shallow-arguments p u i no_trees each = omega arith
shallow-arguments p u zero (more_trees t ts) each = omega (arith, each t)
shallow-arguments p u (suc i) (more_trees t ts) each = omega (arith, shallow-arguments p u i ts each)

-- nothing reaches deeper than the term did or the new term does where it stands
pub shallow-replaced : (p : List ℕ) (u t : Tree) → depth (replaced p u t) ≤ max (depth t) (length p + depth u)
shallow-replaced [] u t = omega arith
shallow-replaced (i ∷ p) u (symbol n) = omega arith
shallow-replaced (i ∷ p) u (app f ts) = omega (arith, shallow-arguments p u i ts (shallow-replaced p u))

-- ---- it is well formed

count-arguments : (p : List ℕ) (u : Tree) (i : ℕ) (ts : Trees)
    → length (tree_list (replaced_argument i p u ts)) ≡ length (tree_list ts)
count-arguments p u i no_trees = refl
count-arguments p u zero (more_trees t ts) = refl
count-arguments p u (suc i) (more_trees t ts) = ap suc (count-arguments p u i ts)

module _ (sig : Sig) where
  formed-arguments : (p : List ℕ) (u : Tree) (i : ℕ) (ts : Trees)
      → ((t : Tree) → well_formed sig t ≡ true → well_formed sig (replaced p u t) ≡ true)
      → all_well_formed sig ts ≡ true → all_well_formed sig (replaced_argument i p u ts) ≡ true
  formed-arguments p u i no_trees each h = refl
  formed-arguments p u zero (more_trees t ts) each h =
      let r = and_parts _ _ h in and_from _ _ (each t r.0) r.1
  formed-arguments p u (suc i) (more_trees t ts) each h =
      let r = and_parts _ _ h in and_from _ _ r.0 (formed-arguments p u i ts each r.1)

  -- well formed terms, one put into the other, are well formed
  pub formed-replaced : (p : List ℕ) (u t : Tree) → well_formed sig u ≡ true → well_formed sig t ≡ true
      → well_formed sig (replaced p u t) ≡ true
  formed-replaced [] u t new h = new
  formed-replaced (i ∷ p) u (symbol n) new h = refl
  formed-replaced (i ∷ p) u (app f ts) new h =
      let r = and_parts _ _ h in
      and_from _ _ (ap (λ n. holds_of (allows n) (slice_get sig.ops f)) (count-arguments p u i ts) ∙ r.0)
      (formed-arguments p u i ts (λ t. formed-replaced p u t new) r.1)

  -- ---- its size alone can be refused

  formed-at : (ts : Trees) (i : ℕ) → all_well_formed sig ts ≡ true
      → IfSome (slice_get (tree_list ts) i) (λ t. well_formed sig t ≡ true)
  formed-at no_trees i h = tt
  formed-at (more_trees t ts) zero h = (and_parts _ _ h).0
  formed-at (more_trees t ts) (suc i) h = formed-at ts i (and_parts _ _ h).1

  formed-below : (p : List ℕ) (o : Option Tree)
      → ((t : Tree) → well_formed sig t ≡ true → IfSome (subterm t p) (λ v. well_formed sig v ≡ true))
      → IfSome o (λ t. well_formed sig t ≡ true)
      → IfSome (option_and_then (λ t. subterm t p) o) (λ v. well_formed sig v ≡ true)
  formed-below p None each h = tt
  formed-below p (Some t) each h = each t h

  -- a subterm of a well formed term is well formed
  pub formed-subterm : (p : List ℕ) (t : Tree) → well_formed sig t ≡ true
      → IfSome (subterm t p) (λ v. well_formed sig v ≡ true)
  formed-subterm [] t h = h
  formed-subterm (i ∷ p) (symbol n) h = tt
  formed-subterm (i ∷ p) (app f ts) h =
      formed-below p (slice_get (tree_list ts) i) (formed-subterm p) (formed-at ts i (and_parts _ _ h).1)

  module _ (p : List ℕ) (u : Tree) where
    one-term : (q : List ℕ) → option_map_or length (new_terms (one_edit p u) q) 1 ≡ 1
    one-term q = elim (bytes_eq p q) as (λ b. option_map_or length (option_map (λ (e : Edit). e.terms)
        (cond b (Some (record { position = p; terms = u ∷ [] })) None)) 1 ≡ 1) [ true ↦ refl | false ↦ refl ]

    allowed-kept : (q : List ℕ) (t o : Tree) → well_formed sig o ≡ true
        → is_allowed sig t (edited_below (one_edit p u) q o) ≡ true
    allowed-kept q t (symbol n) h = refl
    allowed-kept q t (app f ts) h =
        let args = edited_args (one_edit p u) q 0 ts in
        ap (λ n. holds_of (allows n) (slice_get sig.ops f)) (ap length (tree_list-trees args)
        ∙ length-kept (one_edit p u) q 0 ts (λ k. one-term (q ++ k ∷ [])))
        ∙ (and_parts _ _ h).0

    allowed-above : (q : List ℕ) (t : Tree) (o : Option Tree) → IfSome o (λ v. well_formed sig v ≡ true)
        → not (option_map_or (λ v. is_allowed sig t (edited_below (one_edit p u) q v)) o true) ≡ false
    allowed-above q t None h = refl
    allowed-above q t (Some v) h = ap not (allowed-kept q t v h)

    breaks-none : (t : Tree) (b : Bool) → well_formed sig t ≡ true
        → (if b then false else not (option_map_or (λ v. is_allowed sig t (edited_below (one_edit p u) (above p) v))
        (subterm t (above p)) true)) ≡ false
    breaks-none t true h = refl
    breaks-none t false h = allowed-above (above p) t (subterm t (above p)) (formed-subterm (above p) t h)

    -- one edit of a well formed term, at the position of a subterm, can be refused by the size alone
    pub fault-replaced : (t v : Tree) → well_formed sig t ≡ true → subterm t p ≡ Some v
        → edit_fault sig t (one_edit p u) ≡ option_map fault_of (excess (replaced p u t ∷ []))
    fault-replaced t v h found =
        let fine : breaks sig t (one_edit p u) (record { position = p; terms = u ∷ [] }) ≡ false =
        breaks-none t (nat_eq (length p) 0) h in
        rw (found, fine, edited-one p u t) refl
