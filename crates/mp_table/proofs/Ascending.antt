-- Ascending lists: places compare as the items there, and a search finds what stands in the list.
use Rattle.std.proofs.Common.{◌≡◌, ℕ, suc, ◌<◌, ◌+◌, List, [], ◌∷◌, map, length, get_or, true, false, refl, ap}
use Rattle.std.proofs.Common.{sym, ◌∙◌, subst, inl, inr, arith, Result, Ok, Err}
use Rattle.std.specs.Prelude.{MatchResult, nat_lt}
use Rattle.std.specs.declared.cmp.Ordering.{Ordering}
use Rattle.std.specs.declared.cmp.Ordering.TheVariants.{Less, Equal, Greater}
use Rattle.std.specs.Ordering.{nat_cmp, is_lt, ordering_reverse, ordering_index}
use Rattle.std.specs.Cmp.{IsTotalOrder}
use Rattle.std.specs.List.{AllByRecursion}
use Rattle.std.specs.List.Sorted.{IsStrictlySortedBy, IsSorted, IsBinarySearchResult}
use Rattle.std.specs.List.Sorted.{IsNonDecreasingBy, IsPartitionPoint}
use Rattle.std.proofs.lemmas.Bool.Decides.{nat_tests}
use Rattle.std.proofs.lemmas.Cmp.{tied_itself, ranked}
use Rattle.std.proofs.lemmas.List.{get_or-map}
use Rattle.std.proofs.lemmas.List.Sorted.{searchable_from_sorted}
use Rattle.std.proofs.lemmas.Map.Keys.{Less-from_sorted}
use Rattle.mp_term.specs.Listing.{In}

module _ {X : Type 0} (cmp : X → X → Ordering) (o : IsTotalOrder cmp) where
  module _ (xs : List X) (up : IsStrictlySortedBy cmp xs) (d : X) where
    -- places compare as the items there
    pub items_cmp : (i j : ℕ) → i < length xs → j < length xs → cmp (get_or xs i d) (get_or xs j d) ≡ nat_cmp i j
    items_cmp i j h k =
        elim (nat_cmp i j) as (λ r. nat_cmp i j ≡ r → cmp (get_or xs i d) (get_or xs j d) ≡ r) [
          | Less ↦ λ e. Less-from_sorted cmp xs i j d up (ranked i j Less (sym e)) k
          | Equal ↦ λ e.
              subst (λ m. cmp (get_or xs i d) (get_or xs m d) ≡ Equal) (ranked i j Equal (sym e))
              (tied_itself o (get_or xs i d))
          | Greater ↦ λ e.
              o.antisymm (get_or xs i d) (get_or xs j d)
              ∙ ap ordering_reverse (Less-from_sorted cmp xs j i d up (ranked i j Greater (sym e)) h)
        ] refl

  less_back : (r s : Ordering) → s ≡ ordering_reverse r → r ≡ Less → is_lt s ≡ false
  less_back r s e l = rw (e, l) refl

  module _ {Y : Type 0} (key : Y → X) where
    all_keys : (x : X) (ys : List Y) → AllByRecursion (λ y. cmp x (key y) ≡ Less) ys
        → AllByRecursion (λ z. cmp x z ≡ Less) (map key ys)
    all_keys x [] h = tt
    all_keys x (y ∷ ys) h = (h.0, all_keys x ys h.1)

    -- what ascends by a key has keys that ascend
    pub keys_ascend : (ys : List Y) → IsStrictlySortedBy (λ a b. cmp (key a) (key b)) ys
        → IsStrictlySortedBy cmp (map key ys)
    unfolding IsStrictlySortedBy
    keys_ascend [] h = tt
    keys_ascend (y ∷ ys) h = (all_keys (key y) ys h.0, keys_ascend ys h.1)

    all_from_keys : (x : X) (ys : List Y) → AllByRecursion (λ z. cmp x z ≡ Less) (map key ys)
        → AllByRecursion (λ y. cmp x (key y) ≡ Less) ys
    all_from_keys x [] h = tt
    all_from_keys x (y ∷ ys) h = (h.0, all_from_keys x ys h.1)

    -- and the other way round
    pub ascend_by_keys : (ys : List Y) → IsStrictlySortedBy cmp (map key ys)
        → IsStrictlySortedBy (λ a b. cmp (key a) (key b)) ys
    unfolding IsStrictlySortedBy
    ascend_by_keys [] h = tt
    ascend_by_keys (y ∷ ys) h = (all_from_keys (key y) ys h.0, ascend_by_keys ys h.1)

    is_sorted : (ys : List Y) → IsStrictlySortedBy cmp (map key ys) → IsSorted (λ a b. cmp (key a) (key b)) ys
    is_sorted ys up k e low high =
        let less : cmp (key (get_or ys k e)) (key (get_or ys (k + 1) e)) ≡ Less =
        Less-from_sorted (λ a b. cmp (key a) (key b)) ys k (k + 1) e (ascend_by_keys ys up) (omega arith) high in
        less_back _ _ (o.antisymm (key (get_or ys (k + 1) e)) (key (get_or ys k e))) less

    -- the place of a member
    pub place : (x : X) (ys : List Y) → In x (map key ys)
        → (i : ℕ) × (i < length ys) × ((e : Y) → key (get_or ys i e) ≡ x)
    place x [] h = absurd h
    place x (y ∷ ys) (inl e) = (0, omega arith, λ d. sym e)
    place x (y ∷ ys) (inr h) = let r = place x ys h in (suc r.0, omega (arith, r.1), r.2)

    -- a search finds a member
    module _ (same : (x y : X) → cmp x y ≡ Equal → x ≡ y) where
      hit : (ys : List Y) (x : X) (i : ℕ) (d : X) → i < length ys → ((e : Y) → cmp (key (get_or ys i e)) x ≡ Equal)
          → get_or (map key ys) i d ≡ x
      hit [] x i d h found = absurd (omega arith)
      hit (y ∷ ys) x i d h found = get_or-map key (y ∷ ys) i y d h ∙ same _ x (found y)

      miss : (ys : List Y) (x : X) (i : ℕ) → IsStrictlySortedBy cmp (map key ys) → In x (map key ys)
          → (IsNonDecreasingBy (λ y. ordering_index (cmp (key y) x)) ys
          → IsPartitionPoint (λ y. cmp (key y) x ≡ Less) (λ y. cmp (key y) x ≡ Greater) ys i) → ⊥
      miss [] x i up h parted = h
      miss (y ∷ ys) x i up h parted =
          let r = place x (y ∷ ys) h in
          let p = parted (searchable_from_sorted o key (y ∷ ys) x (is_sorted (y ∷ ys) up)) in
          let tie : cmp (key (get_or (y ∷ ys) r.0 y)) x ≡ Equal = rw (r.2 y) (tied_itself o x) in
          elim (nat_lt r.0 i) as (λ b. nat_lt r.0 i ≡ b → ⊥) [
            | true ↦ λ e.
                let less : cmp (key (get_or (y ∷ ys) r.0 y)) x ≡ Less =
                p.0 r.0 y (omega arith) (grind (arith, nat_tests)) in
                let q : Less ≡ Equal = sym less ∙ tie in cc
            | false ↦ λ e.
                let greater : cmp (key (get_or (y ∷ ys) r.0 y)) x ≡ Greater =
                p.1 r.0 y (grind (arith, nat_tests)) r.1 in
                let q : Greater ≡ Equal = sym greater ∙ tie in cc
          ] refl

      pub found : (ys : List Y) (x : X) (r : Result ℕ ℕ) → IsStrictlySortedBy cmp (map key ys) → In x (map key ys)
          → IsBinarySearchResult (λ y. cmp (key y) x) ys r
          → MatchResult r (λ i. (d : X) → i < length ys → get_or (map key ys) i d ≡ x) (λ i. ⊥)
      found ys x (Ok i) up h answer = λ d within. hit ys x i d within answer
      found ys x (Err i) up h answer = miss ys x i up h answer
