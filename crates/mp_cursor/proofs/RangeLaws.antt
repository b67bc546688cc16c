-- The numbers from one on.
use Rattle.std.proofs.Common.{◌≡◌, ◌<◌, ◌≤◌, ◌+◌, ℕ, zero, suc, ◌∷◌, take, refl, ap, arith, ◌∙◌}
use Rattle.std.specs.Prelude.{Some, slice_get}
use Rattle.std.specs.List.{AllByRecursion, range_with_len}

-- the numbers from m on are distinct, and below m + n
pub range-all : (P : ℕ → Type 0) (m n : ℕ) → ((v : ℕ) → m ≤ v → v < m + n → P v)
    → AllByRecursion P (range_with_len m n)
range-all P m zero h = tt
range-all P m (suc n) h =
    (h m (omega arith) (omega arith), range-all P (m + 1) n (λ v a b. h v (omega (arith, a)) (omega (arith, b))))

pub range-get : (m n i v : ℕ) → slice_get (range_with_len m n) i ≡ Some v → v ≡ m + i
range-get m zero i v e = cc
range-get m (suc n) zero v e = let k : m ≡ v = cc in omega (arith, k)
range-get m (suc n) (suc i) v e = omega (arith, range-get (m + 1) n i v e)

pub range-distinct : (m n i j v : ℕ) → slice_get (range_with_len m n) i ≡ Some v
    → slice_get (range_with_len m n) j ≡ Some v → i ≡ j
range-distinct m n i j v a b = omega (arith, range-get m n i v a, range-get m n j v b)

pub range-take : (m n k : ℕ) → n ≤ k → take n (range_with_len m k) ≡ range_with_len m n
range-take m zero k h = refl
range-take m (suc n) zero h = absurd (omega (arith, h))
range-take m (suc n) (suc k) h = ap (λ ns. m ∷ ns) (range-take (m + 1) n k (omega (arith, h)))

pub range-at : (m n v : ℕ) → v < n → slice_get (range_with_len m n) v ≡ Some (m + v)
range-at m zero v h = absurd (omega (arith, h))
range-at m (suc n) zero h = ap Some (omega arith)
range-at m (suc n) (suc v) h = range-at (m + 1) n v (omega (arith, h)) ∙ ap Some (omega arith)
