-- Lists as slices cut them.
use Rattle.std.proofs.Common.{◌≡◌, ◌≤◌, ℕ, zero, suc, List, [], ◌∷◌, take, drop, length, refl, ap, arith, ◌<◌}
use Rattle.std.proofs.Common.{◌+◌, ◌⊎◌, inl, inr, subst, sym}
use Rattle.std.specs.Prelude.{IfSome, IsSome, Option, slice_get}
use Rattle.std.specs.List.{AllByRecursion}

-- how long a front of n items is
pub take-short : {X : Type 0} (n : ℕ) (xs : List X) → length (take n xs) ≤ n
take-short zero xs = omega arith
take-short (suc n) [] = omega arith
take-short (suc n) (x ∷ xs) = let h = take-short n xs in omega arith

-- a number below the next one is below or equal
pub below_or_at : (m n : ℕ) → m < n + 1 → (m < n) ⊎ (m ≡ n)
below_or_at zero zero h = inr refl
below_or_at zero (suc n) h = inl (omega arith)
below_or_at (suc m) zero h = absurd (omega arith)
below_or_at (suc m) (suc n) h =
    elim (below_or_at m n (omega arith)) [ inl l ↦ inl (omega arith) | inr e ↦ inr (ap suc e) ]

-- what holds of each item holds of the first one, where there is one
pub first-holds : {X : Type 0} (P : X → Type 0) (xs : List X) (o : Option X) → o ≡ slice_get xs 0 → AllByRecursion P xs
    → IfSome o P
first-holds P [] o e h = subst (λ o. IfSome o P) (sym e) tt
first-holds P (x ∷ xs) o e h = subst (λ o. IfSome o P) (sym e) h.0

-- behind the first item, where there is one, stand fewer
pub fewer-behind : {X : Type 0} (xs : List X) (o : Option X) → o ≡ slice_get xs 0 → IsSome o
    → length (drop 1 xs) < length xs
fewer-behind [] o e h = let none = subst IsSome e h in cc
fewer-behind (x ∷ xs) o e h = omega arith
