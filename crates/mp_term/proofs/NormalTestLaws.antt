-- A term passes the test exactly where it is its own normal form.
use Rattle.std.proofs.Common.{◌≡◌, ℕ, Bool, true, false, ◌&&◌, not, List, [], ◌∷◌, ◌++◌, refl, ap, sym, ◌∙◌, subst}
use Rattle.std.specs.Prelude.{nat_eq, if◌then◌else◌, ◌↔◌}
use Rattle.std.proofs.Common.{eqb-true}
use Rattle.std.proofs.Math.Bool.{and-true, and-false, and_assoc}
use Rattle.std.proofs.lemmas.Bool.{and_parts, and_from, not-true, not-false}
use Rattle.mp_term.specs.Tree.{Tree, symbol, app, Trees, no_trees, more_trees, tree_list, trees}
use Rattle.mp_term.specs.TreeLists.{tree_list-trees, trees-tree_list}
use Rattle.mp_term.specs.Order.{tree_cmp}
use Rattle.mp_term.specs.OrderLaws.{tree_cmp_total}
use Rattle.mp_term.specs.Sorting.{insert_sorted, sorted}
use Rattle.mp_term.specs.Signature.{Sig, is_assoc, is_comm, is_one}
use Rattle.mp_term.specs.Normal.{parts, flattened, in_order, collapsed, normal, normals}
use Rattle.mp_term.specs.NormalTest.{has_head, is_single, ascending, passes, all_pass}
use Rattle.mp_term.proofs.SortedMeasures.{measure-sorted}
use Rattle.mp_term.proofs.Sorting.{Ascends, ascends-sorted}

pub &&-swap : (a b c : Bool) → (a && (b && c)) ≡ (b && (a && c))
&&-swap true true c = refl
&&-swap true false c = refl
&&-swap false true c = refl
&&-swap false false c = refl

pub ascending-from : (ts : List Tree) → Ascends tree_cmp ts → ascending ts ≡ true
ascending-from [] h = refl
ascending-from (t ∷ []) h = refl
ascending-from (t ∷ u ∷ ts) h = rw h.0.0 (ascending-from (u ∷ ts) h.1)

pub sorted-ascending : (ts : List Tree) → ascending ts ≡ true → sorted tree_cmp ts ≡ ts
sorted-ascending [] h = refl
sorted-ascending (t ∷ []) h = refl
sorted-ascending (t ∷ u ∷ ts) h =
    let p = and_parts _ _ h in
    ap (insert_sorted tree_cmp t) (sorted-ascending (u ∷ ts) p.1) ∙ rw (not-true _ p.0) refl

module _ (sig : Sig) where
  -- an argument of f that passes
  abbrev stays : ℕ → Tree → Bool
  stays f t = passes sig t && not (is_assoc sig f && has_head f t)

  all_pass-append : (f : ℕ) (xs ys : List Tree)
      → all_pass sig f (trees (xs ++ ys)) ≡ (all_pass sig f (trees xs) && all_pass sig f (trees ys))
  all_pass-append f [] ys = refl
  all_pass-append f (x ∷ xs) ys = ap (λ b. stays f x && b) (all_pass-append f xs ys)
      ∙ sym (and_assoc (stays f x) (all_pass sig f (trees xs)) (all_pass sig f (trees ys)))

  all_pass-sorted : (f : ℕ) (xs : List Tree) → all_pass sig f (trees (sorted tree_cmp xs)) ≡ all_pass sig f (trees xs)
  all_pass-sorted f = measure-sorted (λ x b. stays f x && b) (λ x y b. &&-swap (stays f x) (stays f y) b)
      (λ xs. all_pass sig f (trees xs)) (λ x xs. refl) tree_cmp

  -- an argument that isn't opened stays
  parts_stay : (f : ℕ) (t : Tree) (b : Bool) → is_assoc sig f ≡ b → (b && has_head f t) ≡ false → parts sig f t ≡ t ∷ []
  parts_stay f (symbol n) true q e = rw q refl
  parts_stay f (app g us) true q e = rw (q, e) refl
  parts_stay f t false q e = rw q refl

  alone : (f : ℕ) (t : Tree) → passes sig t ≡ true → (is_assoc sig f && has_head f t) ≡ false
      → all_pass sig f (trees (parts sig f t)) ≡ true
  alone f t p e =
      subst (λ l. all_pass sig f (trees l) ≡ true) (sym (parts_stay f t (is_assoc sig f) refl e))
      (and_from _ _ (and_from _ _ p (ap not e)) refl)

  -- what an argument that passes gives to f passes
  app_parts_pass : (f g : ℕ) (us : Trees) (b c : Bool) → is_assoc sig f ≡ b → nat_eq f g ≡ c
      → passes sig (app g us) ≡ true → all_pass sig f (trees (parts sig f (app g us))) ≡ true
  app_parts_pass f g us true true q r p =
      let same : f ≡ g = eqb-true f g r in
      let inner : all_pass sig g us ≡ true = (and_parts _ _ (and_parts _ _ p).1).1 in
      rw (q, r, trees-tree_list us, same) inner
  app_parts_pass f g us true false q r p = alone f (app g us) p (rw (q, r) refl)
  app_parts_pass f g us false c q r p = alone f (app g us) p (rw q refl)

  parts_pass : (f : ℕ) (t : Tree) → passes sig t ≡ true → all_pass sig f (trees (parts sig f t)) ≡ true
  parts_pass f (symbol n) p = elim (is_assoc sig f) as
      (λ v. all_pass sig f (trees (if v then symbol n ∷ [] else (symbol n ∷ []))) ≡ true)
      [ true ↦ rw (and-false (is_assoc sig f)) refl | false ↦ rw (and-false (is_assoc sig f)) refl ]
  parts_pass f (app g us) p = app_parts_pass f g us (is_assoc sig f) (nat_eq f g) refl refl p

  single_passes : (f : ℕ) (t : Tree) (b : Bool) → is_one sig f ≡ b → all_pass sig f (trees (t ∷ [])) ≡ true
      → (is_comm sig f && false) ≡ false → passes sig (collapsed sig f (t ∷ [])) ≡ true
  single_passes f t true o h e = rw o (and_parts _ _ (and_parts _ _ h).0).0
  single_passes f t false o h e =
      let kept : collapsed sig f (t ∷ []) ≡ app f (more_trees t no_trees) = rw o refl in
      subst (λ u. passes sig u ≡ true) (sym kept) (and_from _ _ (rw o refl) (and_from _ _ (ap not e) h))

  collapsed_passes : (f : ℕ) (l : List Tree) → all_pass sig f (trees l) ≡ true
      → (is_comm sig f && not (ascending l)) ≡ false → passes sig (collapsed sig f l) ≡ true
  collapsed_passes f [] h e = rw (and-false (is_one sig f), e) refl
  collapsed_passes f (t ∷ []) h e = single_passes f t (is_one sig f) refl h e
  collapsed_passes f (t ∷ u ∷ ts) h e = rw (and-false (is_one sig f), tree_list-trees ts, e) h

  in_order_passes : (f : ℕ) (l : List Tree) (b : Bool) → is_comm sig f ≡ b → all_pass sig f (trees l) ≡ true
      → passes sig (collapsed sig f (in_order sig f l)) ≡ true
  in_order_passes f l true q h =
      rw q (collapsed_passes f (sorted tree_cmp l) (all_pass-sorted f l ∙ h)
      (rw (q, ascending-from _ (ascends-sorted tree_cmp tree_cmp_total l)) refl))
  in_order_passes f l false q h = rw q (collapsed_passes f l h (rw q refl))

  mutual
    pub passes-normal : (t : Tree) → passes sig (normal sig t) ≡ true
    passes-normal (symbol n) = refl
    passes-normal (app f ts) = in_order_passes f (flattened sig f (normals sig ts)) (is_comm sig f) refl
        (all_pass-normals f ts)

    all_pass-normals : (f : ℕ) (ts : Trees) → all_pass sig f (trees (flattened sig f (normals sig ts))) ≡ true
    all_pass-normals f no_trees = refl
    all_pass-normals f (more_trees t ts) = all_pass-append f (parts sig f (normal sig t))
        (flattened sig f (normals sig ts)) ∙ and_from _ _ (parts_pass f (normal sig t) (passes-normal t))
        (all_pass-normals f ts)

  collapsed_same : (f : ℕ) (ts : Trees) → (is_one sig f && is_single (tree_list ts)) ≡ false
      → collapsed sig f (tree_list ts) ≡ app f ts
  collapsed_same f no_trees e = refl
  collapsed_same f (more_trees t no_trees) e = let o : is_one sig f ≡ false = sym (and-true (is_one sig f)) ∙ e in
      rw o refl
  collapsed_same f (more_trees t (more_trees u us)) e =
      ap (λ vs. app f (more_trees t (more_trees u vs))) (trees-tree_list us)

  in_order_same : (f : ℕ) (l : List Tree) (b : Bool) → is_comm sig f ≡ b → (b && not (ascending l)) ≡ false
      → in_order sig f l ≡ l
  in_order_same f l true q e = rw q (sorted-ascending l (not-false _ e))
  in_order_same f l false q e = rw q refl

  mutual
    pub normal-passes : (t : Tree) → passes sig t ≡ true → normal sig t ≡ t
    normal-passes (symbol n) e = refl
    normal-passes (app f ts) e =
        let p = and_parts _ _ e in
        let q = and_parts _ _ p.1 in
        rw (flat-passes f ts q.1, in_order_same f (tree_list ts) (is_comm sig f) refl (not-true _ q.0))
        (collapsed_same f ts (not-true _ p.0))

    flat-passes : (f : ℕ) (ts : Trees) → all_pass sig f ts ≡ true → flattened sig f (normals sig ts) ≡ tree_list ts
    flat-passes f no_trees e = refl
    flat-passes f (more_trees t ts) e =
        let p = and_parts _ _ e in
        let q = and_parts _ _ p.0 in
        rw (normal-passes t q.0, parts_stay f t (is_assoc sig f) refl (not-true _ q.1), flat-passes f ts p.1) refl

  -- the test decides
  pub passes_iff : (t : Tree) → (passes sig t ≡ true) ↔ (normal sig t ≡ t)
  passes_iff t = (normal-passes t, λ e. subst (λ u. passes sig u ≡ true) e (passes-normal t))

  -- an application whose arguments are a list
  pub passes-refused : (f : ℕ) (ts : List Tree)
      → (not (is_one sig f && is_single ts) && not (is_comm sig f && not (ascending ts))) ≡ false
      → false ≡ passes sig (app f (trees ts))
  passes-refused f ts e =
      rw (
        tree_list-trees ts,
        ← and_assoc (not (is_one sig f && is_single ts))
            (not (is_comm sig f && not (ascending ts))) (all_pass sig f (trees ts)),
        e,
      ) refl

  pub passes-arranged : (f : ℕ) (ts : List Tree)
      → (not (is_one sig f && is_single ts) && not (is_comm sig f && not (ascending ts))) ≡ true
      → all_pass sig f (trees ts) ≡ passes sig (app f (trees ts))
  passes-arranged f ts e =
      rw (
        tree_list-trees ts,
        ← and_assoc (not (is_one sig f && is_single ts))
            (not (is_comm sig f && not (ascending ts))) (all_pass sig f (trees ts)),
        e,
      ) refl
