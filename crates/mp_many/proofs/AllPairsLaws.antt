-- What is listed rule by rule is the all-list.
use Rattle.std.proofs.Common.{◌≡◌, ℕ, zero, suc, ◌+◌, ◌<◌, List, [], ◌∷◌, map, refl, ap, sym}
use Rattle.std.proofs.Common.{◌∙◌, inl, inr, subst, arith}
use Rattle.std.specs.Prelude.{⊤, Some, if◌then◌else◌, slice_get}
use Rattle.std.specs.declared.cmp.Ordering.{Ordering}
use Rattle.std.specs.declared.cmp.Ordering.TheVariants.{Less, Equal, Greater}
use Rattle.std.specs.Ordering.{is_gt, ordering_reverse, ordering_then}
use Rattle.std.specs.Cmp.{IsTotalOrder, nat_cmp_is}
use Rattle.std.specs.List.{AllByRecursion}
use Rattle.std.specs.List.Sorted.{IsStrictlySortedBy}
use Rattle.std.proofs.lemmas.Cmp.{nat_cmp_total, tied_itself}
use Rattle.mp_term.specs.Listing.{In}
use Rattle.mp_term.specs.Normal.{IsNormal}
use Rattle.mp_term.specs.Signature.{Sig}
use Rattle.mp_term.specs.Sorting.{insert_sorted, sorted}
use Rattle.mp_term.specs.Tree.{Tree}
use Rattle.mp_term.proofs.ListingLaws.{contains-from_in, in-from_contains, less_than_all}
use Rattle.mp_term.proofs.SearchLaws.{all-from_in, ascending-append, from_in-append, from_in-map, in-left, in-map}
use Rattle.mp_term.proofs.SearchLaws.{in-right}
use Rattle.mp_term.proofs.Sorting.{all-insert_sorted}
use Rattle.mp_pattern.specs.Admission.{Admits, AreLeast, IsLeast, Rule}
use Rattle.mp_pattern.specs.DerivationOrder.{table_cmp}
use Rattle.mp_pattern.specs.Fits.{Table}
use Rattle.mp_pattern.specs.Lists.{IsAllList, IsOneList, Pair, pair_cmp, subst_cmp}
use Rattle.mp_pattern.specs.Value.{Subst}
use Rattle.mp_pattern.proofs.SortedLaws.{from_in-sorted, in-sorted, all-sorted}
use Rattle.mp_subst.proofs.Equality.{equal-subst_cmp}
use Rattle.mp_theory.specs.OneList.{one_list}
use Rattle.mp_theory.proofs.AllList.{subst_cmp_total}
use Rattle.mp_theory.proofs.OneListLaws.{one_list-is}
use Rattle.mp_many.specs.AllPairs.{all_pairs, pairs_from, sorted_substs}

-- ---- sorted lists

module _ {X : Type 0} (cmp : X → X → Ordering) where
  -- no two items of the list compare as equal
  abbrev AreApart : List X → Type 0
  AreApart [] = ⊤
  AreApart (x ∷ xs) = AllByRecursion (λ y. cmp x y ≡ Equal → ⊥) xs × AreApart xs

  module _ (o : IsTotalOrder cmp) where
    ascending-insert : (x : X) (ys : List X) → AllByRecursion (λ y. cmp x y ≡ Equal → ⊥) ys
        → IsStrictlySortedBy cmp ys → IsStrictlySortedBy cmp (insert_sorted cmp x ys)
    unfolding IsStrictlySortedBy
    ascending-insert x [] a h = (tt, tt)
    ascending-insert x (y ∷ ys) a h =
        elim (cmp x y) as (λ c. cmp x y ≡ c
        → IsStrictlySortedBy cmp (if is_gt c then y ∷ insert_sorted cmp x ys else (x ∷ y ∷ ys))) [
          | Less ↦ λ e. ((e, less_than_all cmp o x y ys e h.0), h)
          | Equal ↦ λ e. absurd (a.0 e)
          | Greater ↦ λ e. (
            all-insert_sorted (λ z. cmp y z ≡ Less) cmp x ys (o.antisymm y x ∙ ap ordering_reverse e) h.0,
            ascending-insert x ys a.1 h.1,
          )
        ] refl

    -- items that are apart ascend strictly where they are sorted
    ascending-sorted : (xs : List X) → AreApart xs → IsStrictlySortedBy cmp (sorted cmp xs)
    unfolding IsStrictlySortedBy
    ascending-sorted [] a = tt
    ascending-sorted (x ∷ xs) a = ascending-insert x (sorted cmp xs)
        (all-sorted (λ y. cmp x y ≡ Equal → ⊥) cmp xs a.0) (ascending-sorted xs a.1)

-- ---- what a rule admits

module _ (sig : Sig) (t : Tree) (normal : IsNormal sig t) (r : Rule) where
  -- a substitution whose table is above one that isn't its own is none of those before
  least_apart : (s : Subst) (T : Table) (ss : List Subst) (Ts : List Table) → IsLeast sig r.pattern t s T
      → AreLeast sig r.pattern t ss Ts → AllByRecursion (λ U. table_cmp T U ≡ Less) Ts
      → AllByRecursion (λ u. subst_cmp s u ≡ Equal → ⊥) ss
  least_apart s T [] Ts l h a = tt
  least_apart s T (u ∷ ss) [] l h a = absurd h
  least_apart s T (u ∷ ss) (U ∷ Ts) l h a = (
    λ e.
        let same : s ≡ u = (equal-subst_cmp s u (subst_cmp s u) (l.fits.subst_of.names ∙ sym h.0.fits.subst_of.names)
        refl).0 e in
        h.0.least T (subst (λ v. IsLeast sig r.pattern t v T) same l).fits a.0,
    least_apart s T ss Ts l h.1 a.1,
  )

  -- so the substitutions of a one-list are apart
  substs_apart : (ss : List Subst) (Ts : List Table) → AreLeast sig r.pattern t ss Ts
      → IsStrictlySortedBy table_cmp Ts → AreApart subst_cmp ss
  unfolding IsStrictlySortedBy
  substs_apart [] Ts h a = tt
  substs_apart (s ∷ ss) [] h a = absurd h
  substs_apart (s ∷ ss) (T ∷ Ts) h a = (least_apart s T ss Ts h.0 h.1 a.0, substs_apart ss Ts h.1 a.1)

  listed : IsOneList sig r t (one_list sig r t)
  listed = one_list-is sig r t normal

  substs-ascend : IsStrictlySortedBy subst_cmp (sorted_substs sig t r)
  substs-ascend = ascending-sorted subst_cmp subst_cmp_total (one_list sig r t)
      (substs_apart (one_list sig r t) listed.tables listed.least listed.ascending)

  in-sorted_substs : (s : Subst) → In s (sorted_substs sig t r) → Admits sig r t s
  in-sorted_substs s i = (listed.exactly s).0 (contains-from_in s (one_list sig r t)
      (from_in-sorted subst_cmp s (one_list sig r t) i))

  sorted_substs-in : (s : Subst) → Admits sig r t s → In s (sorted_substs sig t r)
  sorted_substs-in s h = in-sorted subst_cmp s (one_list sig r t)
      (in-from_contains s (one_list sig r t) ((listed.exactly s).1 h))

-- ---- what rules admit

module _ (sig : Sig) (t : Tree) (normal : IsNormal sig t) where
  -- where a pair of rules that are numbered from i comes from
  record From (i : ℕ) (rs : List Rule) (p : Pair) : Type 0 where
    pub index : ℕ
    pub rule : Rule
    pub number : p.0 ≡ i + index
    pub held : slice_get rs index ≡ Some rule
    pub admits : Admits sig rule t p.1

  in-pairs_from : (p : Pair) (i : ℕ) (rs : List Rule) → In p (pairs_from sig t i rs) → From i rs p
  in-pairs_from p i [] h = absurd h
  in-pairs_from p i (r ∷ rs) h =
      elim (from_in-append p (map (λ s. (i, s)) (sorted_substs sig t r)) (pairs_from sig t (suc i) rs) h) [
        | inl k ↦
            let s = from_in-map (λ s. (i, s)) p (sorted_substs sig t r) k in
            record {
              index = 0;
              rule = r;
              number = ap (λ q. q.0) s.1 ∙ omega arith;
              held = refl;
              admits = subst (Admits sig r t) (sym (ap (λ q. q.1) s.1)) (in-sorted_substs sig t normal r s.0 s.2);
            }
        | inr k ↦
            let f = in-pairs_from p (suc i) rs k in
            record {
              index = suc f.index;
              rule = f.rule;
              number = omega (arith, f.number);
              held = f.held;
              admits = f.admits;
            }
      ]

  pairs_from-in : (s : Subst) (i j : ℕ) (rs : List Rule) (r : Rule) → slice_get rs j ≡ Some r → Admits sig r t s
      → In {X = Pair} (i + j, s) (pairs_from sig t i rs)
  pairs_from-in s i j [] r h a = cc
  pairs_from-in s i zero (q ∷ rs) r h a =
      let same : q ≡ r = let w : Some q ≡ Some r = h in cc in
      let n : i + 0 ≡ i = omega arith in
      in-left (i + 0, s) (map (λ s. (i, s)) (sorted_substs sig t q)) (pairs_from sig t (suc i) rs)
      (subst (λ m. In {X = Pair} (m, s) (map (λ s. (i, s)) (sorted_substs sig t q))) (sym n)
      (in-map (λ s. (i, s)) s (sorted_substs sig t q)
      (sorted_substs-in sig t normal q s (subst (λ u. Admits sig u t s) (sym same) a))))
  pairs_from-in s i (suc j) (q ∷ rs) r h a =
      let n : i + suc j ≡ suc i + j = omega arith in
      in-right (i + suc j, s) (map (λ s. (i, s)) (sorted_substs sig t q)) (pairs_from sig t (suc i) rs)
      (subst (λ m. In {X = Pair} (m, s) (pairs_from sig t (suc i) rs)) (sym n) (pairs_from-in s (suc i) j rs r h a))

  -- a pair is before those of later rules
  before_later : (i : ℕ) (s : Subst) (rs : List Rule)
      → AllByRecursion (λ q. pair_cmp (i, s) q ≡ Less) (pairs_from sig t (suc i) rs)
  before_later i s rs = all-from_in (λ q. pair_cmp (i, s) q ≡ Less) (pairs_from sig t (suc i) rs) (λ q j.
      let f = in-pairs_from q (suc i) rs j in
      let l : i < q.0 = omega (arith, f.number) in
      ap (λ c. ordering_then c (subst_cmp s q.1)) (sym (nat_cmp_is i q.0 Less l)))

  -- pairs of one rule ascend as their substitutions do
  numbered-ascend : (i : ℕ) (ss : List Subst) → IsStrictlySortedBy subst_cmp ss
      → IsStrictlySortedBy pair_cmp (map (λ s. (i, s)) ss)
  unfolding IsStrictlySortedBy
  numbered-ascend i [] h = tt
  numbered-ascend i (s ∷ ss) h = (all_numbered ss h.0, numbered-ascend i ss h.1)
    where
      all_numbered : (us : List Subst) → AllByRecursion (λ u. subst_cmp s u ≡ Less) us
          → AllByRecursion (λ q. pair_cmp (i, s) q ≡ Less) (map (λ u. (i, u)) us)
      all_numbered [] a = tt
      all_numbered (u ∷ us) a =
          (ap (λ c. ordering_then c (subst_cmp s u)) (tied_itself nat_cmp_total i) ∙ a.0, all_numbered us a.1)

  pairs_from-ascend : (i : ℕ) (rs : List Rule) → IsStrictlySortedBy pair_cmp (pairs_from sig t i rs)
  unfolding IsStrictlySortedBy
  pairs_from-ascend i [] = tt
  pairs_from-ascend i (r ∷ rs) =
      ascending-append pair_cmp (map (λ s. (i, s)) (sorted_substs sig t r)) (pairs_from sig t (suc i) rs)
      (numbered-ascend i (sorted_substs sig t r) (substs-ascend sig t normal r)) (pairs_from-ascend (suc i) rs)
      (each (sorted_substs sig t r))
    where
      each : (ss : List Subst) → AllByRecursion (λ p. AllByRecursion (λ q. pair_cmp p q ≡ Less)
          (pairs_from sig t (suc i) rs)) (map (λ s. (i, s)) ss)
      each [] = tt
      each (s ∷ ss) = (before_later i s rs, each ss)

  pub all_pairs-all_list : (rules : List Rule) → IsAllList sig rules t (all_pairs sig rules t)
  all_pairs-all_list rules = record {
    exactly = λ p. (
      λ c.
          let f = in-pairs_from p 0 rules (in-from_contains p (all_pairs sig rules t) c) in
          let e : p.0 ≡ f.index = omega (arith, f.number) in
          (f.rule, ap (slice_get rules) e ∙ f.held, f.admits),
      λ h.
          let e : 0 + p.0 ≡ p.0 = omega arith in
          contains-from_in p (all_pairs sig rules t)
          (subst (λ n. In {X = Pair} (n, p.1) (all_pairs sig rules t)) e (pairs_from-in p.1 0 p.0 rules h.0 h.1 h.2)),
    );
    ascending = pairs_from-ascend 0 rules;
  }
