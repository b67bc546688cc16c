-- The normal form of a well formed term is well formed.
use Rattle.std.proofs.Common.{◌≡◌, ℕ, zero, suc, ◌≤◌, ◌<◌, Bool, true, false, ◌&&◌, ◌||◌, not, List, [], ◌∷◌}
use Rattle.std.proofs.Common.{length, refl, ap, sym, ◌∙◌, subst, arith, length-append}
use Rattle.std.specs.Prelude.{nat_eq, nat_le, if◌then◌else◌, Option, Some, None, slice_get}
use Rattle.std.proofs.Common.{eqb-true}
use Rattle.std.proofs.lemmas.Bool.{leb-true, and_parts, and_from}
use Rattle.std.proofs.lemmas.Bool.Decides.{nat_tests}
use Rattle.mp_term.specs.declared.signature.OpDecl.{OpDecl}
use Rattle.mp_term.specs.Tree.{Tree, symbol, app, Trees, no_trees, more_trees, tree_list, trees}
use Rattle.mp_term.specs.TreeLists.{tree_list-trees, trees-tree_list}
use Rattle.mp_term.specs.Order.{tree_cmp}
use Rattle.mp_term.specs.Sorting.{sorted}
use Rattle.mp_term.specs.Signature.{Sig, holds_of, allows, in_order, all_in_order, is_assoc, is_comm, is_one}
use Rattle.mp_term.specs.Signature.{well_formed, all_well_formed}
use Rattle.mp_term.specs.Normal as n
use Rattle.mp_term.proofs.ListLaws.{all-at}
use Rattle.mp_term.proofs.WellFormedLaws.{well_formed-append}
use Rattle.mp_term.proofs.SortedMeasures.{measure-sorted}
use Rattle.mp_term.proofs.Sorting.{length-sorted}
use Rattle.mp_term.proofs.NormalTestLaws.{&&-swap}

more_tests : (least k m : ℕ) → nat_le least k ≡ true → (0 < least → k ≤ m) → nat_le least m ≡ true
more_tests zero k m h le = grind (arith, nat_tests)
more_tests (suc n) k m h le = let l : k ≤ m = le (omega arith) in grind (arith, nat_tests)

-- a larger count is allowed where the count isn't fixed
allows_more : (d : OpDecl) (k m : ℕ) → d.fixed ≡ false → allows k d ≡ true → (0 < d.least → k ≤ m) → allows m d ≡ true
allows_more d k m f h le =
    let g : nat_le d.least k ≡ true = rw f at h in
    rw f (more_tests d.least k m g le)

allows_one : (d : OpDecl) (k : ℕ) → d.fixed ≡ false → allows k d ≡ true → 0 < d.least → 1 ≤ k
allows_one d k f h le =
    let g : nat_le d.least k ≡ true = rw f at h in
    omega (arith, leb-true d.least k g)

-- an operation that is held is in order where all are
pub in_order-at : (ds : List OpDecl) (f : ℕ) (d : OpDecl) → all_in_order ds ≡ true → slice_get ds f ≡ Some d
    → in_order d ≡ true
in_order-at = all-at in_order

-- an associative declaration has no fixed count
pub assoc-not_fixed : (d : OpDecl) → in_order d ≡ true → d.assoc ≡ true → d.fixed ≡ false
assoc-not_fixed d o a = go d.assoc d.fixed _ _ o a
  where
    go : (a x : Bool) (b c : Bool) → ((not a || (not x && b)) && c) ≡ true → a ≡ true → x ≡ false
    go true true b c e q = cc
    go true false b c e q = refl
    go false x b c e q = cc

module _ (sig : Sig) (o : all_in_order sig.ops ≡ true) where
  -- the count is allowed for the operation
  abbrev allowed : ℕ → ℕ → Bool
  allowed f k = holds_of (allows k) (slice_get sig.ops f)

  wf-sorted : (xs : List Tree) → all_well_formed sig (trees (sorted tree_cmp xs)) ≡ all_well_formed sig (trees xs)
  wf-sorted = measure-sorted (λ x b. well_formed sig x && b)
      (λ x y b. &&-swap (well_formed sig x) (well_formed sig y) b) (λ xs. all_well_formed sig (trees xs))
      (λ x xs. refl) tree_cmp

  wf-in_order : (f : ℕ) (xs : List Tree) → all_well_formed sig (trees (n.in_order sig f xs))
      ≡ all_well_formed sig (trees xs)
  wf-in_order f xs = elim (is_comm sig f) as
      (λ v. all_well_formed sig (trees (if v then sorted tree_cmp xs else xs)) ≡ all_well_formed sig (trees xs))
      [ true ↦ wf-sorted xs | false ↦ refl ]

  length-in_order : (f : ℕ) (xs : List Tree) → length (n.in_order sig f xs) ≡ length xs
  length-in_order f xs = elim (is_comm sig f) as (λ v. length (if v then sorted tree_cmp xs else xs) ≡ length xs)
      [ true ↦ length-sorted tree_cmp xs | false ↦ refl ]

  -- what a well formed argument gives is well formed
  wf-unwrapped : (f : ℕ) (t : Tree) → well_formed sig t ≡ true → all_well_formed sig (trees (n.unwrapped f t)) ≡ true
  wf-unwrapped f (symbol m) h = refl
  wf-unwrapped f (app g us) h =
      elim (nat_eq f g) as (λ v. all_well_formed sig (trees (if v then tree_list us else (app g us ∷ []))) ≡ true) [
        | true ↦ rw (trees-tree_list us) (and_parts _ _ h).1
        | false ↦ and_from _ _ h refl
      ]

  wf-parts : (f : ℕ) (t : Tree) → well_formed sig t ≡ true → all_well_formed sig (trees (n.parts sig f t)) ≡ true
  wf-parts f t h = elim (is_assoc sig f) as
      (λ v. all_well_formed sig (trees (if v then n.unwrapped f t else (t ∷ []))) ≡ true)
      [ true ↦ wf-unwrapped f t h | false ↦ and_from _ _ h refl ]

  wf-collapsed : (f : ℕ) (l : List Tree) → allowed f (length l) ≡ true → all_well_formed sig (trees l) ≡ true
      → well_formed sig (n.collapsed sig f l) ≡ true
  wf-collapsed f [] a h = and_from _ _ a refl
  wf-collapsed f (t ∷ []) a h = elim (is_one sig f) as
      (λ v. well_formed sig (if v then t else app f (more_trees t no_trees)) ≡ true)
      [ true ↦ (and_parts _ _ h).0 | false ↦ and_from _ _ a h ]
  wf-collapsed f (t ∷ u ∷ ts) a h = and_from _ _ (rw (tree_list-trees ts) a) h

  -- the count of what the arguments give is allowed where the count of the arguments is
  flat_same : (f : ℕ) (l : List Tree) → is_assoc sig f ≡ false → n.flattened sig f l ≡ l
  flat_same f [] q = refl
  flat_same f (t ∷ ts) q = let p : n.parts sig f t ≡ t ∷ [] = rw q refl in rw (p, flat_same f ts q) refl

  part_one : (f : ℕ) (d : OpDecl) (t : Tree) (c : Bool) → slice_get sig.ops f ≡ Some d → is_assoc sig f ≡ true
      → d.fixed ≡ false → 0 < d.least → well_formed sig t ≡ true → 1 ≤ length (n.parts sig f t)
  part_one f d t c e q x le h = rw q (unwrapped_one t h)
    where
      headed_one : (g : ℕ) (us : Trees) (v : Bool) → nat_eq f g ≡ v → well_formed sig (app g us) ≡ true
          → 1 ≤ length (n.unwrapped f (app g us))
      headed_one g us true r h =
          let same : f ≡ g = eqb-true f g r in
          let a : allows (length (tree_list us)) d ≡ true =
          ap (holds_of (allows (length (tree_list us)))) (sym e ∙ ap (slice_get sig.ops) same)
          ∙ (and_parts _ _ h).0 in
          rw r (allows_one d (length (tree_list us)) x a le)
      headed_one g us false r h = rw r (omega arith)

      unwrapped_one : (t : Tree) → well_formed sig t ≡ true → 1 ≤ length (n.unwrapped f t)
      unwrapped_one (symbol m) h = omega arith
      unwrapped_one (app g us) h = headed_one g us (nat_eq f g) refl h

  grows : (f : ℕ) (d : OpDecl) (l : List Tree) → slice_get sig.ops f ≡ Some d → is_assoc sig f ≡ true → d.fixed ≡ false
      → 0 < d.least → all_well_formed sig (trees l) ≡ true → length l ≤ length (n.flattened sig f l)
  grows f d [] e q x le w = omega arith
  grows f d (t ∷ ts) e q x le w =
      let p = and_parts _ _ w in
      omega (
        arith,
        length-append (n.parts sig f t) (n.flattened sig f ts),
        part_one f d t true e q x le p.0,
        grows f d ts e q x le p.1,
      )

  flattened_with : (f : ℕ) (l : List Tree) (c : Option OpDecl) → slice_get sig.ops f ≡ c → is_assoc sig f ≡ true
      → all_well_formed sig (trees l) ≡ true → holds_of (allows (length l)) c ≡ true
      → holds_of (allows (length (n.flattened sig f l))) c ≡ true
  flattened_with f l None e q w a = cc
  flattened_with f l (Some d) e q w a =
      let s : d.assoc ≡ true = sym (ap (holds_of (λ c. c.assoc)) e) ∙ q in
      let x : d.fixed ≡ false = assoc-not_fixed d (in_order-at sig.ops f d o e) s in
      allows_more d (length l) (length (n.flattened sig f l)) x a (λ le. grows f d l e q x le w)

  allowed-flattened : (f : ℕ) (l : List Tree) → all_well_formed sig (trees l) ≡ true → allowed f (length l) ≡ true
      → allowed f (length (n.flattened sig f l)) ≡ true
  allowed-flattened f l w a =
      elim (is_assoc sig f) as (λ v. is_assoc sig f ≡ v → allowed f (length (n.flattened sig f l)) ≡ true) [
        | true ↦ λ q. flattened_with f l (slice_get sig.ops f) refl q w a
        | false ↦ λ q. rw (flat_same f l q) a
      ] refl

  mutual
    pub wf-normal : (t : Tree) → well_formed sig t ≡ true → well_formed sig (n.normal sig t) ≡ true
    wf-normal (symbol m) h = refl
    wf-normal (app f ts) h =
        let p = and_parts _ _ h in
        let l = n.normals sig ts in
        let w = wf-normals ts p.1 in
        let c : allowed f (length l) ≡ true = subst (λ k. allowed f k ≡ true) (sym (length-normals ts)) p.0 in
        wf-collapsed f (n.in_order sig f (n.flattened sig f l))
        (subst (λ k. allowed f k ≡ true) (sym (length-in_order f (n.flattened sig f l))) (allowed-flattened f l w c))
        (wf-in_order f (n.flattened sig f l) ∙ wf-flattened f ts p.1)

    wf-normals : (ts : Trees) → all_well_formed sig ts ≡ true → all_well_formed sig (trees (n.normals sig ts)) ≡ true
    wf-normals no_trees h = refl
    wf-normals (more_trees t ts) h = let p = and_parts _ _ h in and_from _ _ (wf-normal t p.0) (wf-normals ts p.1)

    wf-flattened : (f : ℕ) (ts : Trees) → all_well_formed sig ts ≡ true
        → all_well_formed sig (trees (n.flattened sig f (n.normals sig ts))) ≡ true
    wf-flattened f no_trees h = refl
    wf-flattened f (more_trees t ts) h =
        let p = and_parts _ _ h in
        well_formed-append sig (n.parts sig f (n.normal sig t)) (n.flattened sig f (n.normals sig ts))
        ∙ and_from _ _ (wf-parts f (n.normal sig t) (wf-normal t p.0)) (wf-flattened f ts p.1)

    length-normals : (ts : Trees) → length (n.normals sig ts) ≡ length (tree_list ts)
    length-normals no_trees = refl
    length-normals (more_trees t ts) = ap suc (length-normals ts)
