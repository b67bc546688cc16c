-- The items of an ascending list that are above one of them.
use Rattle.std.proofs.Common.{◌≡◌, List, [], ◌∷◌, false, refl, sym, ap, ◌∙◌, inl, inr}
use Rattle.std.proofs.Common.{subst, true}
use Rattle.std.specs.Prelude.{Some, slice_get, if◌then◌else◌}
use Rattle.std.specs.declared.cmp.Ordering.{Ordering}
use Rattle.std.specs.declared.cmp.Ordering.TheVariants.{Less}
use Rattle.std.specs.Ordering.{is_lt}
use Rattle.std.specs.Cmp.{IsTotalOrder}
use Rattle.std.specs.List.{AllByRecursion}
use Rattle.std.specs.List.Sorted.{IsStrictlySortedBy}
use Rattle.std.proofs.lemmas.Cmp.{tied_itself}
use Rattle.mp_term.specs.Listing.{In, above}
use Rattle.mp_term.proofs.ListingLaws.{less_than_all, all_in, one_way}
use Rattle.mp_term.proofs.TestLaws.{less-from, not-lt}

module _ {X : Type 0} (cmp : X → X → Ordering) (o : IsTotalOrder cmp) where
  above-all : (x : X) (ys : List X) → AllByRecursion (λ y. cmp x y ≡ Less) ys → above cmp x ys ≡ ys
  above-all x [] h = refl
  above-all x (y ∷ ys) h = rw h.0 (ap (λ zs. y ∷ zs) (above-all x ys h.1))

  -- nothing is above the last
  pub above-none : (x : X) (ys : List X) → ((y : X) → In y ys → cmp x y ≡ Less → ⊥) → above cmp x ys ≡ []
  above-none x [] h = refl
  above-none x (y ∷ ys) h = rw (not-lt (cmp x y) (h y (inl refl))) (above-none x ys (λ z i. h z (inr i)))

  pub above-head : (x : X) (xs : List X) → AllByRecursion (λ y. cmp x y ≡ Less) xs → above cmp x (x ∷ xs) ≡ xs
  above-head x xs h = rw (tied_itself o x) (above-all x xs h)

  -- the least item is the first, and the others are above it
  pub above-least : (x : X) (xs : List X) → IsStrictlySortedBy cmp xs → In x xs
      → ((y : X) → In y xs → cmp y x ≡ Less → ⊥) → xs ≡ x ∷ above cmp x xs
  unfolding IsStrictlySortedBy
  above-least x [] s i h = absurd i
  above-least x (y ∷ ys) s (inl e) h = subst (λ w. y ∷ ys ≡ w ∷ above cmp w (y ∷ ys)) (sym e)
      (ap (λ zs. y ∷ zs) (sym (above-head y ys s.0)))
  above-least x (y ∷ ys) s (inr i) h = absurd (h y (inl refl) (all_in (λ z. cmp y z ≡ Less) ys x s.0 i))

  -- the least item above cmp w comes first of those above w, and the others are above it
  pub above-next : (w x : X) (xs : List X) → IsStrictlySortedBy cmp xs → In x xs → cmp w x ≡ Less
      → ((y : X) → In y xs → cmp w y ≡ Less → cmp y x ≡ Less → ⊥) → above cmp w xs ≡ x ∷ above cmp x xs
  unfolding IsStrictlySortedBy
  above-next w x [] s i l h = absurd i
  above-next w x (y ∷ ys) s (inl e) l h =
      let P : X → Type 0 = λ z. above cmp w (y ∷ ys) ≡ z ∷ above cmp z (y ∷ ys) in
      let m : cmp w y ≡ Less = subst (λ z. cmp w z ≡ Less) e l in
      subst P (sym e)
      (rw m (ap (λ zs. y ∷ zs) (above-all w ys (less_than_all cmp o w y ys m s.0) ∙ sym (above-head y ys s.0))))
  above-next w x (y ∷ ys) s (inr i) l h =
      let m : cmp y x ≡ Less = all_in (λ z. cmp y z ≡ Less) ys x s.0 i in
      let a : is_lt (cmp w y) ≡ false = not-lt (cmp w y) (λ p. h y (inl refl) p m) in
      let b : is_lt (cmp x y) ≡ false = not-lt (cmp x y) (λ p. one_way cmp o x y p m) in
      rw (a, b) (above-next w x ys s.1 i l (λ z j. h z (inr j)))

  -- the first of an ascending list, and what is above it
  pub above-first : (x : X) (xs : List X) → IsStrictlySortedBy cmp xs → slice_get xs 0 ≡ Some x
      → xs ≡ x ∷ above cmp x xs
  unfolding IsStrictlySortedBy
  above-first x [] s e = cc
  above-first x (y ∷ ys) s e = let q : y ≡ x = cc in subst (λ z. y ∷ ys ≡ z ∷ above cmp z (y ∷ ys)) q
      (ap (λ zs. y ∷ zs) (sym (above-head y ys s.0)))

  -- the first of those above w
  pub in-above : (w x : X) (xs : List X) → slice_get (above cmp w xs) 0 ≡ Some x → In x xs
  in-above w x [] e = cc
  in-above w x (y ∷ ys) e =
      elim (is_lt (cmp w y)) as (λ b. slice_get (if b then y ∷ above cmp w ys else above cmp w ys) 0 ≡ Some x
      → In x (y ∷ ys)) [
        | true ↦ λ k. let q : y ≡ x = cc in inl (sym q)
        | false ↦ λ k. inr (in-above w x ys k)
      ] e

  -- and what is above that
  pub above-onward : (w x : X) (xs : List X) → IsStrictlySortedBy cmp xs → slice_get (above cmp w xs) 0 ≡ Some x
      → above cmp w xs ≡ x ∷ above cmp x xs
  unfolding IsStrictlySortedBy
  above-onward w x [] s e = cc
  above-onward w x (y ∷ ys) s e =
      elim (is_lt (cmp w y)) as (λ b. is_lt (cmp w y) ≡ b
      → slice_get (if b then y ∷ above cmp w ys else above cmp w ys) 0 ≡ Some x
      → (if b then y ∷ above cmp w ys else above cmp w ys) ≡ x ∷ above cmp x (y ∷ ys)) [
        | true ↦ λ q k.
            let same : y ≡ x = cc in
            subst (λ z. y ∷ above cmp w ys ≡ z ∷ above cmp z (y ∷ ys)) same
            (ap (λ zs. y ∷ zs)
            (above-all w ys (less_than_all cmp o w y ys (less-from (cmp w y) q) s.0) ∙ sym (above-head y ys s.0)))
        | false ↦ λ q k.
            let m : cmp y x ≡ Less = all_in (λ z. cmp y z ≡ Less) ys x s.0 (in-above w x ys k) in
            rw (not-lt (cmp x y) (λ p. one_way cmp o x y p m)) (above-onward w x ys s.1 k)
      ] refl e
