-- Facts about each item of a list, and sums over a list, where lists are joined or sorted.
use Rattle.std.proofs.Common.{◌≡◌, ℕ, true, false, List, [], ◌∷◌, map, refl, ap, ◌∙◌, ◌+◌}
use Rattle.std.specs.Prelude.{if◌then◌else◌}
use Rattle.std.specs.declared.cmp.Ordering.{Ordering}
use Rattle.std.specs.Ordering.{is_gt}
use Rattle.std.specs.List.{AllByRecursion}
use Rattle.mp_term.specs.Listing.{In}
use Rattle.mp_term.specs.Sorting.{insert_sorted, sorted}
use Rattle.mp_term.proofs.ListingLaws.{all_in}
use Rattle.mp_term.proofs.SearchLaws.{all-from_in}
use Rattle.mp_term.proofs.SortedMeasures.{joined_all}
use Rattle.mp_term.proofs.Sorting.{all-insert_sorted}

module _ {X : Type 0} (P : X → Type 0) where
  pub all-sorted : (cmp : X → X → Ordering) (xs : List X) → AllByRecursion P xs → AllByRecursion P (sorted cmp xs)
  all-sorted cmp [] h = tt
  all-sorted cmp (x ∷ xs) h = all-insert_sorted P cmp x (sorted cmp xs) h.0 (all-sorted cmp xs h.1)

  all-from_insert : (cmp : X → X → Ordering) (x : X) (ys : List X) → AllByRecursion P (insert_sorted cmp x ys)
      → P x × AllByRecursion P ys
  all-from_insert cmp x [] h = h
  all-from_insert cmp x (y ∷ ys) h =
      elim (is_gt (cmp x y)) as (λ b. AllByRecursion P (if b then y ∷ insert_sorted cmp x ys else (x ∷ y ∷ ys))
      → P x × AllByRecursion P (y ∷ ys)) [
        | true ↦ λ k. let i = all-from_insert cmp x ys k.1 in (i.0, (k.0, i.1))
        | false ↦ λ k. k
      ] h

  -- and back
  pub all-from_sorted : (cmp : X → X → Ordering) (xs : List X) → AllByRecursion P (sorted cmp xs) → AllByRecursion P xs
  all-from_sorted cmp [] h = tt
  all-from_sorted cmp (x ∷ xs) h = let i = all-from_insert cmp x (sorted cmp xs) h in
      (i.0, all-from_sorted cmp xs i.1)

-- a sorted list has the members of the list
module _ {X : Type 0} (cmp : X → X → Ordering) where
  pub in-sorted : (x : X) (xs : List X) → In x xs → In x (sorted cmp xs)
  in-sorted x xs i = all_in (λ y. In y (sorted cmp xs)) xs x
      (all-from_sorted (λ y. In y (sorted cmp xs)) cmp xs
      (all-from_in (λ y. In y (sorted cmp xs)) (sorted cmp xs) (λ y j. j))) i

  pub from_in-sorted : (x : X) (xs : List X) → In x (sorted cmp xs) → In x xs
  from_in-sorted x xs i = all_in (λ y. In y xs) (sorted cmp xs) x
      (all-sorted (λ y. In y xs) cmp xs (all-from_in (λ y. In y xs) xs (λ y j. j))) i

-- the sum of m over a list
abbrev pub total : {X : Type 0} → (X → ℕ) → List X → ℕ
total = joined_all ◌+◌

-- where the orders of X and of Y agree on what f gives
module _ {X Y : Type 0} (f : Y → X) (cmp : X → X → Ordering) (own : Y → Y → Ordering)
    (same : (y z : Y) → cmp (f y) (f z) ≡ own y z) where
  insert_sorted-map : (y : Y) (zs : List Y) → insert_sorted cmp (f y) (map f zs) ≡ map f (insert_sorted own y zs)
  insert_sorted-map y [] = refl
  insert_sorted-map y (z ∷ zs) =
      rw (same y z)
      (elim (is_gt (own y z)) as
      (λ b. (if b then f z ∷ insert_sorted cmp (f y) (map f zs) else (f y ∷ f z ∷ map f zs))
      ≡ map f (if b then z ∷ insert_sorted own y zs else (y ∷ z ∷ zs))) [
        | true ↦ ap (λ xs. f z ∷ xs) (insert_sorted-map y zs)
        | false ↦ refl
      ])

  pub sorted-map : (ys : List Y) → sorted cmp (map f ys) ≡ map f (sorted own ys)
  sorted-map [] = refl
  sorted-map (y ∷ ys) = ap (insert_sorted cmp (f y)) (sorted-map ys) ∙ insert_sorted-map y (sorted own ys)
