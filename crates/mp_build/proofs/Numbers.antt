-- Decimal numbers, in two parts and cut at a bound.
use Rattle.std.proofs.Common.{◌≡◌, ℕ, ◌+◌, ◌*◌, ◌-◌, ◌≤◌, ◌<◌, min, true, List, [], ◌∷◌, ◌++◌}
use Rattle.std.proofs.Common.{arith, rules, inl, inr, ap, refl}
use Rattle.std.specs.Char.{is_ascii_digit}
use Rattle.std.proofs.lemmas.Bool.{cases_lt}
use Rattle.mp_build.specs.Names.{number_after}

-- a digit's byte is one
pub is_ascii_digit-digit : (n : ℕ) → n < 10 → is_ascii_digit (48 + n) ≡ true
is_ascii_digit-digit n small = search (rules, small)

-- digits in two parts
pub number_after-append : (n : ℕ) (front back : List ℕ)
    → number_after n (front ++ back) ≡ number_after (number_after n front) back
number_after-append n [] back = refl
number_after-append n (d ∷ ds) back = number_after-append (10 * n + (d - 48)) ds back

-- further digits make a number no smaller
pub number_after-grows : (n : ℕ) (digits : List ℕ) → n ≤ number_after n digits
number_after-grows n [] = omega arith
number_after-grows n (d ∷ ds) = let h = number_after-grows (10 * n + (d - 48)) ds in omega arith

-- a bound that a number has passed stays passed
pub number_after-cut : (bound n : ℕ) (digits : List ℕ)
    → min (number_after (min n bound) digits) bound ≡ min (number_after n digits) bound
number_after-cut bound n digits =
    elim (cases_lt bound n) [
      | inl h ↦ omega (arith, number_after-grows (min n bound) digits, number_after-grows n digits)
      | inr h ↦ (let e : min n bound ≡ n = omega arith in ap (λ m. min (number_after m digits) bound) e)
    ]

-- one digit more of a number that is cut at a bound
pub number_after-next : (bound n digit : ℕ) (digits rest all : List ℕ) → digits ≡ digit ∷ rest
    → min (number_after n digits) bound ≡ min (number_after 0 all) bound
    → min (number_after (min (10 * n + (digit - 48)) bound) rest) bound ≡ min (number_after 0 all) bound
number_after-next bound n digit digits rest all e h =
    rw (number_after-cut bound (10 * n + (digit - 48)) rest) (rw e at h)
