-- The items of two lists in a row.
use Rattle.std.proofs.Common.{◌≡◌, ◌+◌, ◌<◌, ℕ, zero, suc, List, [], ◌∷◌, ◌++◌, length, refl, ap, ◌∙◌, arith}
use Rattle.std.specs.Prelude.{Some, slice_get}
use Rattle.std.proofs.lemmas.Option.{slice_get_within}

-- one of the first list
pub slice_get-first : {X : Type 0} (xs ys : List X) (i : ℕ) → i < length xs → slice_get (xs ++ ys) i ≡ slice_get xs i
slice_get-first [] ys i few = absurd (omega (arith, few))
slice_get-first (x ∷ xs) ys zero few = refl
slice_get-first (x ∷ xs) ys (suc i) few = slice_get-first xs ys i (omega (arith, few))

-- the same, where it is given
pub slice_get-found : {X : Type 0} (xs ys : List X) (i : ℕ) (x : X) → slice_get xs i ≡ Some x
    → slice_get (xs ++ ys) i ≡ Some x
slice_get-found xs ys i x found = slice_get-first xs ys i (slice_get_within xs i x found) ∙ found

-- one of the second list
pub slice_get-second : {X : Type 0} (xs ys : List X) (i n : ℕ) → n ≡ length xs + i
    → slice_get (xs ++ ys) n ≡ slice_get ys i
slice_get-second [] ys i n is = let e : n ≡ i = omega (arith, is) in ap (slice_get ys) e
slice_get-second (x ∷ xs) ys i n is =
    let e : n ≡ suc (length xs + i) = omega (arith, is) in
    ap (slice_get (x ∷ (xs ++ ys))) e ∙ slice_get-second xs ys i (length xs + i) refl
