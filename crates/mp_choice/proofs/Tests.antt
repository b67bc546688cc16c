-- Tests of numbers, and filters by two tests.
use Rattle.std.proofs.Common.{◌≡◌, ℕ, ◌<◌, ◌≤◌, List, [], ◌∷◌, Bool, true, false, cond, refl, ◌∙◌, sym, inl, inr, subst}
use Rattle.std.proofs.Common.{length, filter, arith}
use Rattle.std.specs.Prelude.{◌==◌, nat_le}
use Rattle.std.proofs.lemmas.Bool.Decides.{nat_tests}
use Rattle.mp_term.specs.Search.{In}

pub nat_le-from : (m n : ℕ) → m ≤ n → nat_le m n ≡ true
nat_le-from m n h = grind (arith, nat_tests)

pub le_from-nat_le : (m n : ℕ) → nat_le m n ≡ true → m ≤ n
le_from-nat_le m n h = grind (arith, nat_tests)

-- equal numbers pass the test
pub eq_test : (m n : ℕ) → m ≡ n → (m == n) ≡ true
eq_test m n h = grind (arith, nat_tests)

-- what passes the test is equal
pub eq_from : (m n : ℕ) → (m == n) ≡ true → m ≡ n
eq_from m n h = grind (arith, nat_tests)

module _ {X : Type 0} (p q : X → Bool) (within : (x : X) → q x ≡ true → p x ≡ true) where
  -- what passes the narrower test is no more
  filter_le : (xs : List X) → length (filter q xs) ≤ length (filter p xs)
  filter_le [] = omega arith
  filter_le (x ∷ xs) = by_tests (p x) (q x) refl refl (filter_le xs)
    where
      by_tests : (a b : Bool) → p x ≡ a → q x ≡ b → length (filter q xs) ≤ length (filter p xs)
          → length (cond b (x ∷ filter q xs) (filter q xs)) ≤ length (cond a (x ∷ filter p xs) (filter p xs))
      by_tests true true e f h = omega arith
      by_tests true false e f h = omega arith
      by_tests false true e f h = (let wrong : false ≡ true = sym e ∙ within x f in cc)
      by_tests false false e f h = h

  -- and it is less where one passes the wider test alone
  pub filter_less : (xs : List X) (z : X) → In z xs → p z ≡ true → q z ≡ false
      → length (filter q xs) < length (filter p xs)
  filter_less [] z i e f = absurd i
  filter_less (x ∷ xs) z (inl same) e f =
      let a : p x ≡ true = subst (λ w. p w ≡ true) same e in
      let b : q x ≡ false = subst (λ w. q w ≡ false) same f in
      rw (a, b) (let l : length (filter q xs) ≤ length (filter p xs) = filter_le xs in omega arith)
  filter_less (x ∷ xs) z (inr i) e f = by_tests (p x) (q x) refl refl (filter_less xs z i e f)
    where
      by_tests : (a b : Bool) → p x ≡ a → q x ≡ b → length (filter q xs) < length (filter p xs)
          → length (cond b (x ∷ filter q xs) (filter q xs)) < length (cond a (x ∷ filter p xs) (filter p xs))
      by_tests true true e f h = omega arith
      by_tests true false e f h = omega arith
      by_tests false true e f h = (let wrong : false ≡ true = sym e ∙ within x f in cc)
      by_tests false false e f h = h
