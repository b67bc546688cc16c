-- What stands first in a list, and how many distinct items there may be.
use Rattle.std.proofs.Common.{◌≡◌, suc, ◌+◌, ◌≤◌, List, [], ◌∷◌, ◌++◌, length, Bool, true, false, refl, ap, sym, ◌∙◌}
use Rattle.std.proofs.Common.{◌⊎◌, inl, inr, subst, arith}
use Rattle.std.proofs.Common.{length-append}
use Rattle.std.specs.Prelude.{if◌then◌else◌, ◌||◌}
use Rattle.std.specs.List.{AllByRecursion}
use Rattle.mp_term.specs.Listing.{In}
use Rattle.mp_term.proofs.SearchLaws.{in-left, in-right, from_in-append}
use Rattle.mp_pattern.specs.Firsts.{firsts_after, add_new, is_known}
use Rattle.mp_theory.proofs.FirstsLaws.{Distinct}

module _ {K : Type 0} (same : K → K → Bool) (sound : (j k : K) → same j k ≡ true → j ≡ k) where
  pub known-in : (ys : List K) (x : K) → is_known same ys x ≡ true → In x ys
  known-in [] x h = (let wrong : false ≡ true = h in cc)
  known-in (y ∷ ys) x h = by_test (same y x) refl h (λ k. known-in ys x k)
    where
      by_test : (b : Bool) → same y x ≡ b → (b || is_known same ys x) ≡ true → (is_known same ys x ≡ true → In x ys)
          → In x (y ∷ ys)
      by_test true e h f = inl (sym (sound y x e))
      by_test false e h f = inr (f h)

  added-in : (ys : List K) (x : K) → In x (add_new same ys x)
  added-in ys x = by_test (is_known same ys x) refl
    where
      by_test : (b : Bool) → is_known same ys x ≡ b → In x (if b then ys else ys ++ (x ∷ []))
      by_test true e = known-in ys x e
      by_test false e = in-right x ys (x ∷ []) (inl refl)

  still-in : (ys : List K) (x k : K) → In k ys → In k (add_new same ys x)
  still-in ys x k i = elim (is_known same ys x) as
      (λ b. In k (if b then ys else ys ++ (x ∷ []))) [ true ↦ i | false ↦ in-left k ys (x ∷ []) i ]

  -- each item is among the first ones
  pub in-firsts_after : (ys xs : List K) (k : K) → In k ys ⊎ In k xs → In k (firsts_after same ys xs)
  in-firsts_after ys [] k (inl i) = i
  in-firsts_after ys [] k (inr i) = absurd i
  in-firsts_after ys (x ∷ xs) k (inl i) = in-firsts_after (add_new same ys x) xs k (inl (still-in ys x k i))
  in-firsts_after ys (x ∷ xs) k (inr (inl e)) =
      in-firsts_after (add_new same ys x) xs k (inl (subst (λ z. In z (add_new same ys x)) (sym e) (added-in ys x)))
  in-firsts_after ys (x ∷ xs) k (inr (inr i)) = in-firsts_after (add_new same ys x) xs k (inr i)

-- a list in which x stands, without it
record Without {K : Type 0} (x : K) (ys : List K) : Type 0 where
  front : List K
  back : List K
  is : ys ≡ front ++ x ∷ back

without : {K : Type 0} (x : K) (ys : List K) → In x ys → Without x ys
without x [] i = absurd i
without x (y ∷ ys) (inl e) = record { front = []; back = ys; is = ap (λ z. z ∷ ys) (sym e) }
without x (y ∷ ys) (inr i) =
    let w = without x ys i in
    record { front = y ∷ w.front; back = w.back; is = ap (λ zs. y ∷ zs) w.is }

module _ {K : Type 0} (same : K → K → Bool) (itself : (k : K) → same k k ≡ true) where
  -- distinct items of a list are no more than it has
  pub length-distinct : (xs ys : List K) → Distinct same xs → ((x : K) → In x xs → In x ys) → length xs ≤ length ys
  length-distinct [] ys d h = omega arith
  length-distinct (x ∷ xs) ys d h =
      let w = without x ys (h x (inl refl)) in
      let n : length ys ≡ length w.front + suc (length w.back) = ap length w.is ∙ length-append w.front (x ∷ w.back) in
      let m : length (w.front ++ w.back) ≡ length w.front + length w.back = length-append w.front w.back in
      let l = length-distinct xs (w.front ++ w.back) d.1
      (λ z i. rest w.front w.back z (apart xs z d.0 i) (subst (In z) w.is (h z (inr i)))) in
      omega arith
    where
      apart : (zs : List K) (z : K) → AllByRecursion (λ y. same x y ≡ false) zs → In z zs → z ≡ x → ⊥
      apart [] z a i e = absurd i
      apart (y ∷ zs) z a (inl p) e = (let wrong : false ≡ true = sym a.0 ∙ (ap (same x) (sym p ∙ e) ∙ itself x) in cc)
      apart (y ∷ zs) z a (inr i) e = apart zs z a.1 i e

      rest : (front back : List K) (z : K) → (z ≡ x → ⊥) → In z (front ++ x ∷ back) → In z (front ++ back)
      rest front back z differs i =
          elim (from_in-append z front (x ∷ back) i) [
            | inl j ↦ in-left z front back j
            | inr j ↦ elim j [ inl e ↦ absurd (differs e) | inr k ↦ in-right z front back k ]
          ]
