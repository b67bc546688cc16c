-- What tests of orderings and of numbers say, and what a choice by a test gives.
use Rattle.std.proofs.Common.{◌≡◌, ℕ, zero, suc, ◌<◌, ◌≤◌, Bool, true, false, Option, Some, None, refl, ap, arith}
use Rattle.std.proofs.Common.{◌⊎◌, inl, inr}
use Rattle.std.specs.Prelude.{if◌then◌else◌, MatchBool}
use Rattle.std.specs.declared.cmp.Ordering.{Ordering}
use Rattle.std.specs.declared.cmp.Ordering.TheVariants.{Less, Equal, Greater}
use Rattle.std.specs.Ordering.{is_lt, is_gt, is_eq, is_ne, ordering_reverse}

-- ---- orderings

-- what is tested to be less is less
pub less-from : (o : Ordering) → is_lt o ≡ true → o ≡ Less
less-from Less e = refl
less-from Equal e = cc
less-from Greater e = cc

-- and back
pub not-lt : (o : Ordering) → (o ≡ Less → ⊥) → is_lt o ≡ false
not-lt Less h = absurd (h refl)
not-lt Equal h = refl
not-lt Greater h = refl

-- what is tested to be equal is equal
pub equal-from : (o : Ordering) → is_eq o ≡ true → o ≡ Equal
equal-from Less e = cc
equal-from Equal e = refl
equal-from Greater e = cc

-- what isn't unequal is equal
pub equal-not_ne : (o : Ordering) → is_ne o ≡ false → o ≡ Equal
equal-not_ne Less e = cc
equal-not_ne Equal e = refl
equal-not_ne Greater e = cc

-- what isn't greater isn't less the other way round
pub not_less-flipped : (r s : Ordering) → s ≡ ordering_reverse r → is_gt r ≡ false → is_lt s ≡ false
not_less-flipped Less s e h = rw e refl
not_less-flipped Equal s e h = rw e refl
not_less-flipped Greater s e h = cc

-- ---- numbers

-- a number is below another one, or not
pub below_or_not : (m n : ℕ) → (m < n) ⊎ (n ≤ m)
below_or_not m zero = inr (omega arith)
below_or_not zero (suc n) = inl (omega arith)
below_or_not (suc m) (suc n) = elim (below_or_not m n) [ inl l ↦ inl (omega arith) | inr l ↦ inr (omega arith) ]

-- a number up to another one is below it, or is it
pub below_or_last : (k n : ℕ) → k < suc n → (k < n) ⊎ (k ≡ n)
below_or_last zero zero l = inr refl
below_or_last zero (suc n) l = inl (omega arith)
below_or_last (suc k) zero l = absurd (omega (arith, l))
below_or_last (suc k) (suc n) l = elim (below_or_last k n (omega (arith, l)))
    [ inl h ↦ inl (omega (arith, h)) | inr e ↦ inr (ap suc e) ]

-- ---- choices by a test

-- what is found behind a test
pub found-behind : {X : Type 0} (b : Bool) (o : Option X) (x : X) → (if b then o else None) ≡ Some x
    → (b ≡ true) × (o ≡ Some x)
found-behind true o x e = (refl, e)
found-behind false o x e = cc

-- a choice by a test is one by a test that is equal
pub match-if : {X : Type 0} (b k : Bool) (o : Option X) (x : X) → b ≡ k → o ≡ (if k then Some x else None)
    → MatchBool b (o ≡ Some x) (o ≡ None)
match-if true true o x e h = h
match-if true false o x e h = cc
match-if false true o x e h = cc
match-if false false o x e h = h
