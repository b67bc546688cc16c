-- What the items of a list give together, whatever their order, its sorted list gives as well.
use Rattle.std.proofs.Common.{◌≡◌, ℕ, ◌≤◌, max, true, false, List, [], ◌∷◌, ◌++◌, refl, ap, sym, ◌∙◌, arith, ◌+◌}
use Rattle.std.specs.Prelude.{if◌then◌else◌}
use Rattle.std.specs.declared.cmp.Ordering.{Ordering}
use Rattle.std.specs.Ordering.{is_gt}
use Rattle.mp_term.specs.Sorting.{insert_sorted, sorted}

-- f takes the items one by one by `joined`, where two of them may change places
module _ {X M : Type 0} (joined : X → M → M) (swap : (x y : X) (m : M) → joined x (joined y m) ≡ joined y (joined x m))
    (f : List X → M) (more : (x : X) (xs : List X) → f (x ∷ xs) ≡ joined x (f xs)) (cmp : X → X → Ordering) where
  measure-insert_sorted : (x : X) (ys : List X) → f (insert_sorted cmp x ys) ≡ joined x (f ys)
  measure-insert_sorted x [] = more x []
  measure-insert_sorted x (y ∷ ys) =
      elim (is_gt (cmp x y)) as (λ b. f (if b then y ∷ insert_sorted cmp x ys else (x ∷ y ∷ ys))
      ≡ joined x (f (y ∷ ys))) [
        | true ↦ more y (insert_sorted cmp x ys) ∙ ap (joined y) (measure-insert_sorted x ys) ∙ swap y x (f ys)
            ∙ ap (joined x) (sym (more y ys))
        | false ↦ more x (y ∷ ys)
      ]

  pub measure-sorted : (xs : List X) → f (sorted cmp xs) ≡ f xs
  measure-sorted [] = refl
  measure-sorted (x ∷ xs) = measure-insert_sorted x (sorted cmp xs) ∙ ap (joined x) (measure-sorted xs)
      ∙ sym (more x xs)

-- numbers are joined so, as by + or by max
pub record IsJoin (join : ℕ → ℕ → ℕ) : Type 0 where
  pub alone : (m : ℕ) → join m 0 ≡ m
  pub first : (m : ℕ) → join 0 m ≡ m
  pub grouped : (k m n : ℕ) → join (join k m) n ≡ join k (join m n)
  pub swapped : (k m n : ℕ) → join k (join m n) ≡ join m (join k n)
  pub rises : (k l m n : ℕ) → k ≤ l → m ≤ n → join k m ≤ join l n

pub sums : IsJoin ◌+◌
sums = record {
  alone = λ m. omega arith;
  first = λ m. omega arith;
  grouped = λ k m n. omega arith;
  swapped = λ k m n. omega arith;
  rises = λ k l m n g h. omega (arith, g, h);
}

pub maxima : IsJoin max
maxima = record {
  alone = λ m. omega arith;
  first = λ m. omega arith;
  grouped = λ k m n. omega arith;
  swapped = λ k m n. omega arith;
  rises = λ k l m n g h. omega (arith, g, h);
}

module _ {X : Type 0} (join : ℕ → ℕ → ℕ) (m : X → ℕ) where
  -- the numbers of the items of a list, joined
  abbrev pub joined_all : List X → ℕ
  joined_all [] = 0
  joined_all (x ∷ xs) = join (m x) (joined_all xs)

  module _ (j : IsJoin join) where
    pub joined-append : (xs ys : List X) → joined_all (xs ++ ys) ≡ join (joined_all xs) (joined_all ys)
    joined-append [] ys = sym (j.first (joined_all ys))
    joined-append (x ∷ xs) ys = ap (join (m x)) (joined-append xs ys)
        ∙ sym (j.grouped (m x) (joined_all xs) (joined_all ys))

    pub joined-sorted : (cmp : X → X → Ordering) (xs : List X) → joined_all (sorted cmp xs) ≡ joined_all xs
    joined-sorted = measure-sorted (λ x n. join (m x) n) (λ x y n. j.swapped (m x) (m y) n) joined_all (λ x xs. refl)
