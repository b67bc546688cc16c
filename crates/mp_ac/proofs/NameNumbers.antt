-- The number in a name `v` and a number in decimal.
use Rattle.std.proofs.Common.{◌≡◌, ◌<◌, ◌≤◌, ◌+◌, ◌-◌, ◌*◌, ◌/◌, ◌%◌, ◌^◌, ◌++◌, ◌⊎◌, inl, inr, ℕ, List, [], ◌∷◌}
use Rattle.std.proofs.Common.{length}
use Rattle.std.proofs.Common.{refl, ap, ◌∙◌, subst, arith, slice_index_or}
use Rattle.std.proofs.Common.{map, take, zero, suc}
use Rattle.std.specs.Prelude.{decimal, Some, option_map, slice_get}
use Rattle.mp_term.specs.Search.{In}
use Rattle.mp_term.proofs.TestLaws.{below_or_not}
use Rattle.mp_pattern.specs.Plan.{Variable}
use Rattle.std.proofs.lemmas.Fmt.{decimal_by_steps}
use Rattle.mp_pattern.specs.NetTokens.{numbered}
use Rattle.mp_pattern.specs.declared.limits.TheConstants.{MAX_VARIABLES}
use Rattle.mp_ac.specs.CommPlan.{IsNumbered}

-- the digits of a number below 100
abbrev AreDigits : ℕ → List ℕ → Type 0
AreDigits n ds =
    (n < 10 → ds ≡ (48 + n) ∷ []) × (10 ≤ n → n < 100 → ds ≡ (48 + n / 10) ∷ (48 + n % 10) ∷ [])

digits-decimal : (n : ℕ) → n < 2 ^ 64 → AreDigits n (decimal n)
digits-decimal = decimal_by_steps AreDigits one more
  where
    one : (n : ℕ) → n < 10 → AreDigits n ((48 + n) ∷ [])
    one n small = (λ h. refl, λ h k. absurd (omega arith))

    more : (n : ℕ) (ds : List ℕ) → 10 ≤ n → AreDigits (n / 10) ds → AreDigits n (ds ++ ((48 + n % 10) ∷ []))
    more n ds large front = (
      λ h. absurd (omega arith),
      λ h k. ap (λ xs. xs ++ (48 + n % 10) ∷ []) (front.0 (omega arith)),
    )

-- the two lengths that a name of a number within the limit may have
pub record HasOneDigit (x : List ℕ) : Type 0 where
  pub number : ℕ
  pub few : number < 10
  pub name : x ≡ 118 ∷ (48 + number) ∷ []
  pub is : x ≡ numbered number

pub record HasTwoDigits (x : List ℕ) : Type 0 where
  pub number : ℕ
  pub few : number < MAX_VARIABLES
  pub name : x ≡ 118 ∷ (48 + number / 10) ∷ (48 + number % 10) ∷ []
  pub is : x ≡ numbered number

pub one_or_two : (x : List ℕ) → IsNumbered x → HasOneDigit x ⊎ HasTwoDigits x
one_or_two x h = by_size (below_or_not h.number 10)
  where
    digits : AreDigits h.number (decimal h.number)
    digits = digits-decimal h.number (omega (arith, h.few))

    by_size : (h.number < 10) ⊎ (10 ≤ h.number) → HasOneDigit x ⊎ HasTwoDigits x
    by_size (inl k) = inl record {
      number = h.number;
      few = k;
      name = h.name ∙ ap (λ ds. 118 ∷ ds) (digits.0 k);
      is = h.name;
    }
    by_size (inr k) = inr record {
      number = h.number;
      few = h.few;
      name = h.name ∙ ap (λ ds. 118 ∷ ds) (digits.1 k (omega (arith, h.few)));
      is = h.name;
    }

-- what is read of two bytes, and of three
pub record ReadsNumber (x : List ℕ) (n : ℕ) : Type 0 where
  pub name : x ≡ numbered n
  pub few : n < MAX_VARIABLES

pub reads-one : (x : List ℕ) → IsNumbered x → length x < 3
    → (48 ≤ slice_index_or x 1 0) × ReadsNumber x (slice_index_or x 1 0 - 48)
reads-one x h l = by_digits (one_or_two x h)
  where
    by_digits : HasOneDigit x ⊎ HasTwoDigits x
        → (48 ≤ slice_index_or x 1 0) × ReadsNumber x (slice_index_or x 1 0 - 48)
    by_digits (inl d) =
        let e : slice_index_or x 1 0 ≡ 48 + d.number = ap (λ y. slice_index_or y 1 0) d.name in (
          omega (arith, e),
          subst (ReadsNumber x) (let z : d.number ≡ slice_index_or x 1 0 - 48 = omega (arith, e) in z)
              (record { name = d.is; few = omega (arith, d.few) }),
        )
    by_digits (inr d) = absurd (let e : length x ≡ 3 = ap length d.name in omega (arith, e, l))

pub reads-two : (x : List ℕ) → IsNumbered x → 3 ≤ length x
    → (48 ≤ slice_index_or x 1 0) × (48 ≤ slice_index_or x 2 0)
    × ReadsNumber x ((slice_index_or x 1 0 - 48) * 10 + (slice_index_or x 2 0 - 48))
reads-two x h l = by_digits (one_or_two x h)
  where
    by_digits : HasOneDigit x ⊎ HasTwoDigits x
        → (48 ≤ slice_index_or x 1 0) × (48 ≤ slice_index_or x 2 0)
        × ReadsNumber x ((slice_index_or x 1 0 - 48) * 10 + (slice_index_or x 2 0 - 48))
    by_digits (inl d) = absurd (let e : length x ≡ 2 = ap length d.name in omega (arith, e, l))
    by_digits (inr d) =
        let e : slice_index_or x 1 0 ≡ 48 + d.number / 10 = ap (λ y. slice_index_or y 1 0) d.name in
        let f : slice_index_or x 2 0 ≡ 48 + d.number % 10 = ap (λ y. slice_index_or y 2 0) d.name in (
          omega (arith, e),
          omega (arith, f),
          subst (ReadsNumber x) (let z : d.number ≡ (slice_index_or x 1 0 - 48) * 10 + (slice_index_or x 2 0 - 48) =
              omega (arith, e, f) in z) (record { name = d.is; few = d.few }),
        )

-- there are two bytes or three
pub length-numbered : (x : List ℕ) → IsNumbered x → (2 ≤ length x) × (length x < 4)
length-numbered x h = by_digits (one_or_two x h)
  where
    by_digits : HasOneDigit x ⊎ HasTwoDigits x → (2 ≤ length x) × (length x < 4)
    by_digits (inl d) = let e : length x ≡ 2 = ap length d.name in (omega (arith, e), omega (arith, e))
    by_digits (inr d) = let e : length x ≡ 3 = ap length d.name in (omega (arith, e), omega (arith, e))

-- the name at a number is one of them, and stands behind those before it
pub name-in : (xs : List Variable) (n : ℕ) (x : List ℕ)
    → Some x ≡ option_map (λ (v : Variable). v.name) (slice_get xs n)
    → In x (map (λ (v : Variable). v.name) xs)
name-in [] n x e = cc
name-in (v ∷ xs) zero x e = inl (let k : x ≡ v.name = cc in k)
name-in (v ∷ xs) (suc n) x e = inr (name-in xs n x e)

pub name-behind : (xs : List Variable) (n : ℕ) (x : List ℕ)
    → Some x ≡ option_map (λ (v : Variable). v.name) (slice_get xs n)
    → map (λ (v : Variable). v.name) (take (suc n) xs) ≡ map (λ (v : Variable). v.name) (take n xs) ++ x ∷ []
name-behind [] n x e = cc
name-behind (v ∷ xs) zero x e = ap (λ y. y ∷ []) (let k : v.name ≡ x = cc in k)
name-behind (v ∷ xs) (suc n) x e = ap (λ ys. v.name ∷ ys) (name-behind xs n x e)
