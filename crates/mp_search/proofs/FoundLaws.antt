-- What is wanted among the items behind the entries of a node.
use Rattle.std.proofs.Common.{◌≡◌, List, [], ◌∷◌, ◌++◌, map, Bool, true, false, ◌&&◌, refl, ap, sym, ◌∙◌}
use Rattle.std.proofs.Common.{inl, inr, subst, append-nil}
use Rattle.std.specs.Prelude.{filter, flat_map, Some, slice_get, if◌then◌else◌}
use Rattle.std.specs.declared.cmp.Ordering.{Ordering}
use Rattle.std.specs.declared.cmp.Ordering.TheVariants.{Less, Equal, Greater}
use Rattle.std.specs.Ordering.{is_lt, is_eq, ordering_then, ordering_reverse}
use Rattle.std.specs.List.{AllByRecursion}
use Rattle.std.specs.List.Sorted.{IsStrictlySortedBy}
use Rattle.std.proofs.lemmas.Cmp.{tied_itself}
use Rattle.std.proofs.lemmas.List.Elements.{filter-append}
use Rattle.std.proofs.Math.Bool.{and-false, and-true}
use Rattle.mp_term.specs.Search.{In}
use Rattle.mp_term.proofs.ListingLaws.{all_in, irreflexive}
use Rattle.mp_pattern.specs.Fits.{Entry, Table}
use Rattle.mp_pattern.specs.DerivationOrder.{entry_cmp, table_cmp}
use Rattle.mp_theory.specs.OneList.{Item}
use Rattle.mp_theory.specs.Items.{behind, above_entry}
use Rattle.mp_theory.proofs.Tables.{entry_cmp_total}
use Rattle.mp_theory.proofs.Unique.{same_entry}
use Rattle.mp_search.specs.declared.mode.Mode.{Mode}
use Rattle.mp_search.specs.declared.mode.Mode.TheVariants.{First, After, At}
use Rattle.mp_search.specs.declared.query.Query.{Query}
use Rattle.mp_search.specs.Wanted.{beyond, good, wanted}

-- lists and tests

pub filter-map : {X Y : Type 0} (p : Y → Bool) (f : X → Y) (xs : List X)
    → filter p (map f xs) ≡ map f (filter (λ x. p (f x)) xs)
filter-map p f [] = refl
filter-map p f (x ∷ xs) =
    elim (p (f x)) as
    (λ b. (if b then f x ∷ filter p (map f xs) else filter p (map f xs))
    ≡ map f (if b then x ∷ filter (λ x. p (f x)) xs else filter (λ x. p (f x)) xs)) [
      | true ↦ ap (λ ys. f x ∷ ys) (filter-map p f xs)
      | false ↦ filter-map p f xs
    ]

pub filter-alike : {X : Type 0} (p r : X → Bool) (xs : List X) → ((x : X) → p x ≡ r x) → filter p xs ≡ filter r xs
filter-alike p r [] h = refl
filter-alike p r (x ∷ xs) h = ap (λ b. if b then x ∷ filter p xs else filter p xs) (h x)
    ∙ ap (λ ys. if r x then x ∷ ys else ys) (filter-alike p r xs h)

filter-never : {X : Type 0} (p : X → Bool) (xs : List X) → ((x : X) → p x ≡ false) → filter p xs ≡ []
filter-never p [] h = refl
filter-never p (x ∷ xs) h = ap (λ b. if b then x ∷ filter p xs else filter p xs) (h x) ∙ filter-never p xs h

pub filter-always : {X : Type 0} (p : X → Bool) (xs : List X) → ((x : X) → p x ≡ true) → filter p xs ≡ xs
filter-always p [] h = refl
filter-always p (x ∷ xs) h = ap (λ b. if b then x ∷ filter p xs else filter p xs) (h x)
    ∙ ap (λ ys. x ∷ ys) (filter-always p xs h)

filter-flat : {X Y : Type 0} (p : Y → Bool) (f : X → List Y) (xs : List X)
    → filter p (flat_map f xs) ≡ flat_map (λ x. filter p (f x)) xs
filter-flat p f [] = refl
filter-flat p f (x ∷ xs) = filter-append p (f x) (flat_map f xs)
    ∙ ap (λ ys. filter p (f x) ++ ys) (filter-flat p f xs)

pub filter-both : {X : Type 0} (p r : X → Bool) (xs : List X) → filter p xs ≡ [] → filter (λ x. p x && r x) xs ≡ []
filter-both p r [] h = refl
filter-both p r (x ∷ xs) h =
    elim (p x) as
    (λ b. p x ≡ b → (if b then x ∷ filter p xs else filter p xs) ≡ [] → filter (λ x. p x && r x) (x ∷ xs) ≡ []) [
      | true ↦ λ e k. cc
      | false ↦ λ e k. ap
          (λ b. if b && r x then x ∷ filter (λ x. p x && r x) xs else filter (λ x. p x && r x) xs) e
          ∙ filter-both p r xs k
    ] refl h

pub first-map : {X Y : Type 0} (f : X → Y) (xs : List X) (x : X) → slice_get xs 0 ≡ Some x
    → slice_get (map f xs) 0 ≡ Some (f x)
first-map f [] x h = cc
first-map f (y ∷ ys) x h = let e : y ≡ x = cc in ap (λ z. Some (f z)) e

pub first-append : {X : Type 0} (xs ys : List X) (x : X) → slice_get xs 0 ≡ Some x → slice_get (xs ++ ys) 0 ≡ Some x
first-append [] ys x h = cc
first-append (z ∷ zs) ys x h = h

-- the order of entries

below-Greater : (d e : Entry) → entry_cmp d e ≡ Less → entry_cmp e d ≡ Greater
below-Greater d e h = entry_cmp_total.antisymm e d ∙ ap ordering_reverse h

-- what holds of entries above one of them
pub above-all : (d : Entry) (es : List Entry) → AllByRecursion (λ z. entry_cmp d z ≡ Less) es → above_entry d es ≡ es
above-all d [] h = refl
above-all d (z ∷ zs) h = ap (λ o. if is_lt o then z ∷ above_entry d zs else above_entry d zs) h.0
    ∙ ap (λ ys. z ∷ ys) (above-all d zs h.1)

not-below : (e : Entry) (ds : List Entry) → AllByRecursion (λ z. entry_cmp e z ≡ Less) ds → In e ds → ⊥
not-below e ds h i = irreflexive entry_cmp entry_cmp_total e (all_in (λ z. entry_cmp e z ≡ Less) ds e h i)

-- the item begins with an entry above e
abbrev begins_above : Entry → Item → Bool
begins_above e i = elim i.0 [ [] ↦ false | d ∷ T ↦ is_lt (entry_cmp e d) ]

-- so of the items behind entries those are left that are behind entries above e
filter-begins_above : (g : Entry → List Item) (e : Entry) (es : List Entry)
    → filter (begins_above e) (flat_map (λ d. map (behind d) (g d)) es)
    ≡ flat_map (λ d. map (behind d) (g d)) (above_entry e es)
filter-begins_above g e [] = refl
filter-begins_above g e (d ∷ ds) =
    let f : Entry → List Item = λ d. map (behind d) (g d) in
    filter-append (begins_above e) (f d) (flat_map f ds)
    ∙ ap (λ ys. filter (begins_above e) (f d) ++ ys) (filter-begins_above g e ds)
    ∙ ap (λ ys. ys ++ flat_map f (above_entry e ds)) (filter-map (begins_above e) (behind d) (g d))
    ∙ elim (is_lt (entry_cmp e d)) as
    (λ b. is_lt (entry_cmp e d) ≡ b
    → map (behind d) (filter (λ i. is_lt (entry_cmp e d)) (g d)) ++ flat_map f (above_entry e ds)
    ≡ flat_map f (if b then d ∷ above_entry e ds else above_entry e ds)) [
      | true ↦ λ p. ap (λ ys. map (behind d) ys ++ flat_map f (above_entry e ds))
          (filter-always (λ i. is_lt (entry_cmp e d)) (g d) (λ i. p))
      | false ↦ λ p. ap (λ ys. map (behind d) ys ++ flat_map f (above_entry e ds))
          (filter-never (λ i. is_lt (entry_cmp e d)) (g d) (λ i. p))
    ] refl

-- entries that lead to the same items do so above an entry
pub above-same : (g : Entry → List Item) (e : Entry) (es ds : List Entry)
    → flat_map (λ d. map (behind d) (g d)) es ≡ flat_map (λ d. map (behind d) (g d)) ds
    → flat_map (λ d. map (behind d) (g d)) (above_entry e es)
    ≡ flat_map (λ d. map (behind d) (g d)) (above_entry e ds)
above-same g e es ds h = sym (filter-begins_above g e es) ∙ ap (filter (begins_above e)) h
    ∙ filter-begins_above g e ds

module _ (q : Query) where
  -- the same entry in front of the bound and of the items
  beyond-behind : (m : Mode) (e : Entry) (W V : Table) → beyond m (e ∷ W) (e ∷ V) ≡ beyond m W V
  beyond-behind First e W V = refl
  beyond-behind After e W V = ap (λ o. is_lt (ordering_then o (table_cmp W V))) (tied_itself entry_cmp_total e)
  beyond-behind At e W V = ap (λ o. is_eq (ordering_then o (table_cmp W V))) (tied_itself entry_cmp_total e)

  pub wanted-behind : (m : Mode) (e : Entry) (W : Table) (is : List Item)
      → wanted q m (e ∷ W) (map (behind e) is) ≡ map (behind e) (wanted q m W is)
  wanted-behind m e W is = filter-map (λ i. good q i && beyond m (e ∷ W) i.0) (behind e) is
      ∙ ap (map (behind e))
      (filter-alike (λ i. good q i && beyond m (e ∷ W) (e ∷ i.0)) (λ i. good q i && beyond m W i.0) is
      (λ i. ap (λ b. good q i && b) (beyond-behind m e W i.0)))

  wanted-higher : (e d : Entry) (W : Table) (is : List Item) → entry_cmp e d ≡ Less
      → wanted q After (e ∷ W) (map (behind d) is) ≡ filter (good q) (map (behind d) is)
  wanted-higher e d W is h = filter-map (λ i. good q i && beyond After (e ∷ W) i.0) (behind d) is
      ∙ ap (map (behind d))
      (filter-alike (λ i. good q i && beyond After (e ∷ W) (d ∷ i.0)) (good q) is
      (λ i. ap (λ o. good q i && is_lt (ordering_then o (table_cmp W i.0))) h ∙ and-true (good q i)))
      ∙ sym (filter-map (good q) (behind d) is)

  wanted-lower : (e d : Entry) (W : Table) (is : List Item) → entry_cmp e d ≡ Greater
      → wanted q After (e ∷ W) (map (behind d) is) ≡ []
  wanted-lower e d W is h = filter-map (λ i. good q i && beyond After (e ∷ W) i.0) (behind d) is
      ∙ ap (map (behind d))
      (filter-never (λ i. good q i && beyond After (e ∷ W) (d ∷ i.0)) is
      (λ i. ap (λ o. good q i && is_lt (ordering_then o (table_cmp W i.0))) h ∙ and-false (good q i)))

  wanted-other : (e d : Entry) (W : Table) (is : List Item) (o : Ordering) → entry_cmp e d ≡ o
      → ((p : Ordering) → is_eq (ordering_then o p) ≡ false) → wanted q At (e ∷ W) (map (behind d) is) ≡ []
  wanted-other e d W is o h k = filter-map (λ i. good q i && beyond At (e ∷ W) i.0) (behind d) is
      ∙ ap (map (behind d))
      (filter-never (λ i. good q i && beyond At (e ∷ W) (d ∷ i.0)) is
      (λ i. ap (λ p. good q i && is_eq (ordering_then p (table_cmp W i.0))) h
      ∙ ap (λ b. good q i && b) (k (table_cmp W i.0)) ∙ and-false (good q i)))

  -- without the bound
  pub wanted-first : (W : Table) (is : List Item) → wanted q First W is ≡ filter (good q) is
  wanted-first W is = filter-alike (λ i. good q i && true) (good q) is (λ i. and-true (good q i))

  -- nothing is wanted where nothing is good
  pub wanted-none : (m : Mode) (W : Table) (is : List Item) → filter (good q) is ≡ [] → wanted q m W is ≡ []
  wanted-none m W is h = filter-both (good q) (λ i. beyond m W i.0) is h

  -- over entries, each of which gives items with it in front
  module _ (g : Entry → List Item) where
    abbrev f : Entry → List Item
    f d = map (behind d) (g d)

    -- after a bound that isn't among the entries
    after-none : (e : Entry) (W : Table) (es : List Entry) → (In e es → ⊥)
        → wanted q After (e ∷ W) (flat_map f es) ≡ filter (good q) (flat_map f (above_entry e es))
    after-none e W [] h = refl
    after-none e W (d ∷ ds) h =
        let rest = after-none e W ds (λ i. h (inr i)) in
        filter-append (λ i. good q i && beyond After (e ∷ W) i.0) (f d) (flat_map f ds)
        ∙ elim (entry_cmp e d) as
        (λ o. entry_cmp e d ≡ o → wanted q After (e ∷ W) (f d) ++ wanted q After (e ∷ W) (flat_map f ds)
        ≡ filter (good q) (flat_map f (if is_lt o then d ∷ above_entry e ds else above_entry e ds))) [
          | Less ↦ λ p. ap (λ xs. xs ++ wanted q After (e ∷ W) (flat_map f ds)) (wanted-higher e d W (g d) p)
              ∙ ap (λ ys. filter (good q) (f d) ++ ys) rest
              ∙ sym (filter-append (good q) (f d) (flat_map f (above_entry e ds)))
          | Equal ↦ λ p. absurd (h (inl (same_entry e d p)))
          | Greater ↦ λ p. ap (λ xs. xs ++ wanted q After (e ∷ W) (flat_map f ds)) (wanted-lower e d W (g d) p)
              ∙ rest
        ] refl

    -- after a bound that is one of them
    pub after-one : (e : Entry) (W : Table) (es : List Entry) → IsStrictlySortedBy entry_cmp es → In e es
        → wanted q After (e ∷ W) (flat_map f es)
        ≡ wanted q After (e ∷ W) (f e) ++ filter (good q) (flat_map f (above_entry e es))
    unfolding IsStrictlySortedBy
    after-one e W [] up i = absurd i
    after-one e W (d ∷ ds) up (inl p) =
        subst
        (λ z. AllByRecursion (λ y. entry_cmp z y ≡ Less) ds → wanted q After (e ∷ W) (flat_map f (z ∷ ds))
        ≡ wanted q After (e ∷ W) (f e) ++ filter (good q) (flat_map f (above_entry e (z ∷ ds)))) p (λ all.
        filter-append (λ i. good q i && beyond After (e ∷ W) i.0) (f e) (flat_map f ds)
        ∙ ap (λ ys. wanted q After (e ∷ W) (f e) ++ ys) (after-none e W ds (not-below e ds all)
        ∙ ap (λ o. filter (good q) (flat_map f (if is_lt o then e ∷ above_entry e ds else above_entry e ds)))
        (sym (tied_itself entry_cmp_total e)))) up.0
    after-one e W (d ∷ ds) up (inr i) =
        let rest = after-one e W ds up.1 i in
        let p : entry_cmp e d ≡ Greater = below-Greater d e (all_in (λ y. entry_cmp d y ≡ Less) ds e up.0 i) in
        filter-append (λ i. good q i && beyond After (e ∷ W) i.0) (f d) (flat_map f ds)
        ∙ ap (λ xs. xs ++ wanted q After (e ∷ W) (flat_map f ds)) (wanted-lower e d W (g d) p) ∙ rest
        ∙ ap
        (λ o. wanted q After (e ∷ W) (f e)
        ++ filter (good q) (flat_map f (if is_lt o then d ∷ above_entry e ds else above_entry e ds))) (sym p)

    -- at an entry that isn't one of them, or is
    pub at-none : (e : Entry) (W : Table) (es : List Entry) → (In e es → ⊥)
        → wanted q At (e ∷ W) (flat_map f es) ≡ []
    at-none e W [] h = refl
    at-none e W (d ∷ ds) h =
        filter-append (λ i. good q i && beyond At (e ∷ W) i.0) (f d) (flat_map f ds)
        ∙ elim (entry_cmp e d) as
        (λ o. entry_cmp e d ≡ o → wanted q At (e ∷ W) (f d) ++ wanted q At (e ∷ W) (flat_map f ds) ≡ []) [
          | Less ↦ λ p. ap (λ xs. xs ++ wanted q At (e ∷ W) (flat_map f ds))
              (wanted-other e d W (g d) Less p (λ o. refl)) ∙ at-none e W ds (λ i. h (inr i))
          | Equal ↦ λ p. absurd (h (inl (same_entry e d p)))
          | Greater ↦ λ p. ap (λ xs. xs ++ wanted q At (e ∷ W) (flat_map f ds))
              (wanted-other e d W (g d) Greater p (λ o. refl)) ∙ at-none e W ds (λ i. h (inr i))
        ] refl

    pub at-one : (e : Entry) (W : Table) (es : List Entry) → IsStrictlySortedBy entry_cmp es → In e es
        → wanted q At (e ∷ W) (flat_map f es) ≡ wanted q At (e ∷ W) (f e)
    unfolding IsStrictlySortedBy
    at-one e W [] up i = absurd i
    at-one e W (d ∷ ds) up (inl p) =
        subst
        (λ z. AllByRecursion (λ y. entry_cmp z y ≡ Less) ds
        → wanted q At (e ∷ W) (flat_map f (z ∷ ds)) ≡ wanted q At (e ∷ W) (f e)) p (λ all.
        filter-append (λ i. good q i && beyond At (e ∷ W) i.0) (f e) (flat_map f ds)
        ∙ ap (λ ys. wanted q At (e ∷ W) (f e) ++ ys) (at-none e W ds (not-below e ds all))
        ∙ append-nil (wanted q At (e ∷ W) (f e))) up.0
    at-one e W (d ∷ ds) up (inr i) =
        let p : entry_cmp e d ≡ Greater = below-Greater d e (all_in (λ y. entry_cmp d y ≡ Less) ds e up.0 i) in
        filter-append (λ i. good q i && beyond At (e ∷ W) i.0) (f d) (flat_map f ds)
        ∙ ap (λ xs. xs ++ wanted q At (e ∷ W) (flat_map f ds)) (wanted-other e d W (g d) Greater p (λ o. refl))
        ∙ at-one e W ds up.1 i
