-- The order of what is found: that what rules admit is their all-list in it.
use Rattle.std.proofs.Common.{◌≡◌, ◌≤◌, ◌<◌, ℕ, zero, suc, length, List, [], ◌∷◌, ◌++◌, map}
use Rattle.std.proofs.Common.{drop, refl, ap, ap₂, sym, true, ◌∙◌}
use Rattle.std.proofs.Common.{inl, inr, subst, arith}
use Rattle.std.specs.Prelude.{◌↔◌, Contains, Some}
use Rattle.std.specs.Prelude.{slice_get}
use Rattle.std.specs.FinMap.{slice_cmp-IsAntisymmetric}
use Rattle.std.specs.List.{dedup, AllByRecursion}
use Rattle.std.specs.List.Sorted.{IsPermutation, IsSorted, IsStrictlySortedBy}
use Rattle.std.specs.Ordering.{eq_by_cmp, is_ne, nat_cmp, ordering_then}
use Rattle.std.specs.declared.cmp.Ordering.{Ordering}
use Rattle.std.specs.declared.cmp.Ordering.TheVariants.{Less, Equal, Greater}
use Rattle.std.proofs.lemmas.List.{length-map, drop_all}
use Rattle.std.proofs.lemmas.List.Kept.{Contains-from_dedup}
use Rattle.std.proofs.lemmas.List.Sorted.{Contains-permutation, IsPermutation-sym}
use Rattle.std.proofs.lemmas.Cmp.{lists_total, nat_cmp_total, nat_list_cmp_total, tied_itself}
use Rattle.mp_term.specs.Listing.{In, IsListing}
use Rattle.mp_term.specs.OrderLaws.{both_equal, nat_same, nats_same}
use Rattle.mp_term.specs.Signature.{Sig}
use Rattle.mp_term.specs.Tree.{Tree}
use Rattle.mp_term.proofs.ListingLaws.{all_in, contains-from_in, in-from_contains}
use Rattle.mp_term.proofs.SearchLaws.{all-from_in, from_in-append, in-left, in-right}
use Rattle.mp_pattern.proofs.Distinct.{IsListing-dedup}
use Rattle.mp_pattern.specs.Admission.{Rule}
use Rattle.mp_pattern.specs.Lists.{IsAllList, Pair, PairAdmitted, pair_cmp, subst_cmp}
use Rattle.mp_pattern.specs.Value.{Subst}
use Rattle.mp_pattern.specs.Variables.{variables}
use Rattle.mp_subst.proofs.Equality.{equal-subst_cmp}
use Rattle.mp_table.specs.Table as tables
use Rattle.mp_walk.specs.Found.{found_cmp, names_cmp, names_of}
use Rattle.mp_walk.specs.FoundOrder.{found_cmp_total}
use Rattle.mp_walk.specs.Ranked.{Ranked, ranked_cmp, pairs_of, AreOver}
use Rattle.mp_walk.specs.RankedView.{kept_binding, kept_name, ranked_pair}
use Rattle.mp_walk.specs.declared.ranked.Kept.{Kept}

-- ---- the order

-- equal pairs alone compare as equal
pub found_same : (p q : Pair) → found_cmp p q ≡ Equal → p ≡ q
found_same p q e =
    let a = both_equal _ _ e in
    let b = both_equal _ _ a.1 in
    let names = slice_cmp-IsAntisymmetric nats_same (names_of p.1) (names_of q.1) b.0 in
    let same : p.1 ≡ q.1 = (equal-subst_cmp p.1 q.1 (subst_cmp p.1 q.1) names refl).0 b.1 in
    ap (λ (n : ℕ). (n, p.1)) (nat_same p.0 q.0 a.0) ∙ ap (λ (s : Subst). (q.0, s)) same

-- the names of values
pub names-kept : (t : tables.Table) (ks : List Kept) → names_of (map (kept_binding t) ks) ≡ map kept_name ks
names-kept t [] = refl
names-kept t (k ∷ ks) = ap (λ xs. kept_name k ∷ xs) (names-kept t ks)

-- values whose names compare as equal are as many
pub many-kept : (ks js : List Kept) → names_cmp (map kept_name ks) (map kept_name js) ≡ Equal → length ks ≡ length js
many-kept ks js e =
    sym (length-map ks kept_name)
    ∙ ap length (slice_cmp-IsAntisymmetric nats_same (map kept_name ks) (map kept_name js) e) ∙ length-map js kept_name

-- what comes first decides, where it isn't equal
then-ne : (o r : Ordering) → is_ne o ≡ true → ordering_then o r ≡ o
then-ne Less r h = refl
then-ne Equal r h = cc
then-ne Greater r h = refl

-- pairs of one rule
module _ (n m : ℕ) (t u : tables.Table) (ks js : List Kept) (rule : n ≡ m) where
  abbrev values_cmp : Ordering
  values_cmp = subst_cmp (map (kept_binding t) ks) (map (kept_binding u) js)

  of-one-rule : found_cmp (ranked_pair n t ks) (ranked_pair m u js)
      ≡ ordering_then (names_cmp (map kept_name ks) (map kept_name js)) values_cmp
  of-one-rule =
      ap (λ c. ordering_then c (ordering_then
      (names_cmp (names_of (map (kept_binding t) ks)) (names_of (map (kept_binding u) js))) values_cmp))
      (ap (nat_cmp n) (sym rule) ∙ tied_itself nat_cmp_total n)
      ∙ ap₂ (λ (xs ys : List (List ℕ)). ordering_then (names_cmp xs ys) values_cmp) (names-kept t ks) (names-kept u js)

  -- compare by their names, where these differ
  pub found-other_names : (o : Ordering) → o ≡ names_cmp (map kept_name ks) (map kept_name js) → is_ne o ≡ true
      → o ≡ found_cmp (ranked_pair n t ks) (ranked_pair m u js)
  found-other_names o is other =
      sym (of-one-rule ∙ ap (λ c. ordering_then c values_cmp) (sym is) ∙ then-ne o values_cmp other)

  -- and else by their values
  pub found-same_names : names_cmp (map kept_name ks) (map kept_name js) ≡ Equal → (o : Ordering)
      → o ≡ values_cmp → o ≡ found_cmp (ranked_pair n t ks) (ranked_pair m u js)
  found-same_names same o is = is ∙ sym (of-one-rule ∙ ap (λ c. ordering_then c values_cmp) same)

-- what is at a place within a list, and behind it
drop-within : {X : Type 0} (i : ℕ) (xs : List X) → i < length xs → (x : X) × (rest : List X) × (drop i xs ≡ x ∷ rest)
drop-within i [] h = absurd (omega (arith, h))
drop-within zero (x ∷ xs) h = (x, xs, refl)
drop-within (suc i) (x ∷ xs) h = drop-within i xs (omega (arith, h))

module _ (i : ℕ) (bs os : List Kept) where
  abbrev compared : List Kept → List Kept → Ordering
  compared cs ds = names_cmp (map kept_name cs) (map kept_name ds)

  -- behind the last value, of fewer than the others or of as many
  pub ended-less : length bs ≤ i → i < length os → compared (drop i bs) (drop i os) ≡ Less
  ended-less h k =
      let w = drop-within i os k in
      subst (λ cs. compared cs (drop i os) ≡ Less) (sym (drop_all i bs h))
      (subst (λ ds. compared [] ds ≡ Less) (sym w.2) refl)

  pub ended-equal : length bs ≤ i → length os ≤ i → compared (drop i bs) (drop i os) ≡ Equal
  ended-equal h k = subst (λ cs. compared cs (drop i os) ≡ Equal) (sym (drop_all i bs h))
      (subst (λ ds. compared [] ds ≡ Equal) (sym (drop_all i os k)) refl)

-- pairs of which those of one rule have the same variables
module _ (P : Pair → Type 0) (alike : (p q : Pair) → P p → P q → p.0 ≡ q.0 → names_of p.1 ≡ names_of q.1) where
  -- compare as pairs do
  pair_less : (p q : Pair) → P p → P q → found_cmp p q ≡ Less → pair_cmp p q ≡ Less
  pair_less p q h k e =
      elim (nat_cmp p.0 q.0) as (λ c. nat_cmp p.0 q.0 ≡ c
      → ordering_then c (ordering_then (names_cmp (names_of p.1) (names_of q.1)) (subst_cmp p.1 q.1)) ≡ Less
      → ordering_then c (subst_cmp p.1 q.1) ≡ Less) [
        | Less ↦ λ n l. refl
        | Equal ↦ λ n l.
            let names : names_cmp (names_of p.1) (names_of q.1) ≡ Equal =
            subst (λ ns. names_cmp (names_of p.1) ns ≡ Equal) (alike p q h k (nat_same p.0 q.0 n))
            (tied_itself (lists_total nat_list_cmp_total) (names_of p.1)) in
            sym (ap (λ c. ordering_then c (subst_cmp p.1 q.1)) names) ∙ l
        | Greater ↦ λ n l. cc
      ] refl e

  -- and so they ascend as pairs
  pub ascending-pairs : (ps : List Pair) → AllByRecursion P ps → IsStrictlySortedBy found_cmp ps
      → IsStrictlySortedBy pair_cmp ps
  unfolding IsStrictlySortedBy
  ascending-pairs [] h a = tt
  ascending-pairs (p ∷ ps) h a = (all_less ps h.1 a.0, ascending-pairs ps h.1 a.1)
    where
      all_less : (qs : List Pair) → AllByRecursion P qs → AllByRecursion (λ q. found_cmp p q ≡ Less) qs
          → AllByRecursion (λ q. pair_cmp p q ≡ Less) qs
      all_less [] k l = tt
      all_less (q ∷ qs) k l = (pair_less p q h.0 k.0 l.0, all_less qs k.1 l.1)

module _ (sig : Sig) (rules : List Rule) (t : Tree) where
  -- what the rules admit is so
  same-names : (p q : Pair) → PairAdmitted sig rules t p → PairAdmitted sig rules t q → p.0 ≡ q.0
      → names_of p.1 ≡ names_of q.1
  same-names p q h k e =
      let held : Some h.0 ≡ Some k.0 = sym h.1 ∙ ap (slice_get rules) e ∙ k.1 in
      let rule : h.0 ≡ k.0 = cc in
      h.2.fits.subst_of.names ∙ ap (λ r. variables r.pattern) rule ∙ sym k.2.fits.subst_of.names

  -- what the rules admit, in order, is their all-list
  pub listing-all_list : (found ps : List Pair) → ((p : Pair) → Contains found p ↔ PairAdmitted sig rules t p)
      → IsListing found_cmp (Contains found) ps → IsAllList sig rules t ps
  listing-all_list found ps h l = record {
    exactly = λ p. (λ c. (h p).0 ((l.exactly p).0 c), λ a. (l.exactly p).1 ((h p).1 a));
    ascending = ascending-pairs (PairAdmitted sig rules t) same-names ps
        (all-from_in (PairAdmitted sig rules t) ps (λ p i. (h p).0 ((l.exactly p).0 (contains-from_in p ps i))))
        l.ascending;
  }

-- ---- lists of pairs

-- pairs that are sorted, each once, are in order
pub listing-dedup : (rs qs : List Ranked) → IsPermutation rs qs → IsSorted ranked_cmp qs
    → IsListing found_cmp (Contains (pairs_of rs)) (pairs_of (dedup (eq_by_cmp ranked_cmp) qs))
listing-dedup = IsListing-dedup found_cmp found_cmp_total found_same (λ r. r.pair)

-- and over the same table
pub AreOver-dedup : (t : tables.Table) (rs qs : List Ranked) → IsPermutation rs qs → AreOver t rs
    → AreOver t (dedup (eq_by_cmp ranked_cmp) qs)
AreOver-dedup t rs qs moved over =
    let once = dedup (eq_by_cmp ranked_cmp) qs in
    all-from_in (λ r. r.table ≡ t) once (λ r i. all_in (λ r. r.table ≡ t) rs r over
    (in-from_contains r rs (Contains-permutation qs rs r (IsPermutation-sym rs qs moved)
    (Contains-from_dedup (eq_by_cmp ranked_cmp) qs r (contains-from_in r once i)))))

-- one more pair behind lists of the same pairs
pub contains-pushed : (xs ys : List Pair) (q : Pair) → ((p : Pair) → Contains ys p ↔ Contains xs p)
    → (p : Pair) → Contains (ys ++ q ∷ []) p ↔ Contains (xs ++ q ∷ []) p
contains-pushed xs ys q same p = (
  λ c. half xs ys (λ k. in-from_contains p xs ((same p).0 (contains-from_in p ys k))) c,
  λ c. half ys xs (λ k. in-from_contains p ys ((same p).1 (contains-from_in p xs k))) c,
)
  where
    half : (us vs : List Pair) → (In p vs → In p us) → Contains (vs ++ q ∷ []) p → Contains (us ++ q ∷ []) p
    half us vs f c =
        contains-from_in p (us ++ q ∷ [])
        (elim (from_in-append p vs (q ∷ []) (in-from_contains p (vs ++ q ∷ []) c)) [
          | inl k ↦ in-left p us (q ∷ []) (f k)
          | inr k ↦ in-right p us (q ∷ []) k
        ])
