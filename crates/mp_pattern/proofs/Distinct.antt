-- What a sort leaves once repeats are dropped: the listing of the keys.
use Rattle.std.proofs.Common.{◌≡◌, ℕ, zero, suc, ◌+◌, ◌<◌, true, false, cond, List, [], ◌∷◌, length, get_or, map}
use Rattle.std.proofs.Common.{refl, ap, sym, subst, arith}
use Rattle.std.specs.Prelude.{Contains}
use Rattle.std.specs.declared.cmp.Ordering.{Ordering}
use Rattle.std.specs.declared.cmp.Ordering.TheVariants.{Less, Equal, Greater}
use Rattle.std.specs.Ordering.{eq_by_cmp, is_eq}
use Rattle.std.specs.Cmp.{IsTotalOrder}
use Rattle.std.specs.List.{dedup, dedup_from}
use Rattle.std.specs.List.Sorted.{IsSorted, IsPermutation}
use Rattle.std.proofs.lemmas.Cmp.{eq_by_cmp_equiv}
use Rattle.std.proofs.lemmas.List.{length-map}
use Rattle.std.proofs.lemmas.List.Kept.{Contains-from_dedup, Contains-dedup, IsStrictlySortedBy-dedup}
use Rattle.std.proofs.lemmas.List.Sorted.{Contains-permutation, IsPermutation-sym, IsPermutation-map}
use Rattle.mp_term.specs.Listing.{IsListing}

module _ {X Y : Type 0} (cmp : X → X → Ordering) (o : IsTotalOrder cmp) (same : (x y : X) → cmp x y ≡ Equal → x ≡ y)
    (key : Y → X) where
  abbrev by_key : Y → Y → Ordering
  by_key a b = cmp (key a) (key b)

  -- repeats of keys are dropped with the items that have them
  map-dedup_from : (y : Y) (ys : List Y)
      → map key (dedup_from (eq_by_cmp by_key) y ys) ≡ dedup_from (eq_by_cmp cmp) (key y) (map key ys)
  map-dedup_from y [] = refl
  map-dedup_from y (z ∷ ys) =
      elim (eq_by_cmp by_key z y) as
      (λ b. map key (cond b (dedup_from (eq_by_cmp by_key) y ys) (y ∷ dedup_from (eq_by_cmp by_key) z ys))
      ≡ cond b (dedup_from (eq_by_cmp cmp) (key y) (map key ys))
      (key y ∷ dedup_from (eq_by_cmp cmp) (key z) (map key ys)))
      [ true ↦ map-dedup_from y ys | false ↦ ap (λ l. key y ∷ l) (map-dedup_from z ys) ]

  map-dedup : (ys : List Y) → map key (dedup (eq_by_cmp by_key) ys) ≡ dedup (eq_by_cmp cmp) (map key ys)
  map-dedup [] = refl
  map-dedup (y ∷ ys) = map-dedup_from y ys

  equal-from : (x y : X) → eq_by_cmp cmp x y ≡ true → x ≡ y
  equal-from x y e = elim (cmp x y) as (λ r. cmp x y ≡ r → is_eq r ≡ true → x ≡ y)
      [ Less ↦ λ q i. cc | Equal ↦ λ q i. same x y q | Greater ↦ λ q i. cc ] refl e

  key-at : (ys : List Y) (i : ℕ) (y : Y) (d : X) → i < length ys → get_or (map key ys) i d ≡ key (get_or ys i y)
  key-at [] i y d h = absurd (omega arith)
  key-at (z ∷ ys) zero y d h = refl
  key-at (z ∷ ys) (suc i) y d h = key-at ys i y d (omega arith)

  sorted-keys : (ys : List Y) → IsSorted by_key ys → IsSorted cmp (map key ys)
  sorted-keys [] h k d low high = absurd (omega arith)
  sorted-keys (y ∷ ys) h k d low high =
      let within : k + 1 < length (y ∷ ys) = omega (arith, high, length-map (y ∷ ys) key) in
      rw (key-at (y ∷ ys) (k + 1) y d within, key-at (y ∷ ys) k y d (omega arith)) (h k y low within)

  -- the keys of what is left are exactly those that were there, ascending
  pub IsListing-dedup : (ys zs : List Y) → IsPermutation ys zs → IsSorted by_key zs
      → IsListing cmp (Contains (map key ys)) (map key (dedup (eq_by_cmp by_key) zs))
  IsListing-dedup ys zs moved up =
      let moved_keys : IsPermutation (map key ys) (map key zs) = IsPermutation-map key ys zs moved in
      subst (IsListing cmp (Contains (map key ys))) (sym (map-dedup zs)) (record {
        exactly = λ x. (
          λ h. Contains-permutation (map key zs) (map key ys) x
              (IsPermutation-sym (map key ys) (map key zs) moved_keys)
              (Contains-from_dedup (eq_by_cmp cmp) (map key zs) x h),
          λ h. Contains-dedup (eq_by_cmp_equiv o) equal-from (map key zs) x
              (Contains-permutation (map key ys) (map key zs) x moved_keys h),
        );
        ascending = IsStrictlySortedBy-dedup o (λ x y. refl) (map key zs) (sorted-keys zs up);
      })
