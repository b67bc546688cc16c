-- Two filters in one, and filters that keep everything.
use Rattle.std.proofs.Common.{◌≡◌, ◌≤◌, List, [], ◌∷◌, Bool, true, false, ◌&&◌, length, refl, ap, sym, ◌∙◌, arith, inl}
use Rattle.std.proofs.Common.{inr}
use Rattle.std.specs.Prelude.{filter, if◌then◌else◌, IsTrue}
use Rattle.mp_term.specs.Search.{In}

pub filter-both : {X : Type 0} (p q : X → Bool) (xs : List X) → filter (λ x. p x && q x) xs ≡ filter q (filter p xs)
filter-both p q [] = refl
filter-both p q (x ∷ xs) = elim (p x) as (λ b. (if b && q x then x ∷ filter (λ y. p y && q y) xs else
    filter (λ y. p y && q y) xs) ≡ filter q (if b then x ∷ filter p xs else filter p xs)) [
      | true ↦ ap (λ ys. if q x then x ∷ ys else ys) (filter-both p q xs)
      | false ↦ filter-both p q xs
    ]

filter-shorter : {X : Type 0} (p : X → Bool) (xs : List X) → length (filter p xs) ≤ length xs
filter-shorter p [] = omega arith
filter-shorter p (x ∷ xs) = elim (p x) as (λ b. length (if b then x ∷ filter p xs else filter p xs) ≤ length (x ∷ xs))
    [ true ↦ omega (arith, filter-shorter p xs) | false ↦ omega (arith, filter-shorter p xs) ]

-- where everything is kept, everything passes
pub kept-pass : {X : Type 0} (p : X → Bool) (xs : List X) (x : X) → length xs ≤ length (filter p xs) → In x xs
    → p x ≡ true
kept-pass p [] x h i = absurd i
kept-pass p (y ∷ xs) x h i =
    elim (p y) as (λ b. p y ≡ b → length (y ∷ xs) ≤ length (if b then y ∷ filter p xs else filter p xs) → p x ≡ true) [
      | true ↦ λ e k. elim i [
        | inl q ↦ ap p q ∙ e
        | inr j ↦ kept-pass p xs x (omega (arith, k)) j
      ]
      | false ↦ λ e k. absurd (omega (arith, k, filter-shorter p xs))
    ] refl h

-- a member is one of a list that isn't empty
pub not-empty : {X : Type 0} (x : X) (xs : List X) → In x xs → xs ≡ [] → ⊥
not-empty x [] i e = i
not-empty x (y ∷ xs) i e = cc

-- answers that are true at once are one
pub both-true : (a b : Bool) → (IsTrue a → b ≡ true) → (b ≡ true → IsTrue a) → a ≡ b
both-true true b f g = sym (f refl)
both-true false true f g = g refl
both-true false false f g = refl
