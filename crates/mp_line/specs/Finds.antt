-- What a call finds that reads a text.
use Rattle.std.specs.Prelude.{◌≡◌, Option, Some, None}

-- the value is such, and no other is
pub record IsOnly {A : Type 0} (P : A → Type 0) (a : A) : Type 0 where
  pub is : P a
  pub only : (b : A) → P b → b ≡ a

-- what is found is the only such value, or there is none
abbrev pub Finds : {T A : Type 0} → (T → A) → (A → Type 0) → Option T → Type 0
Finds view P (Some v) = IsOnly P (view v)
Finds {A = A} view P None = (a : A) → P a → ⊥

-- so of a pair of values
abbrev pub FindsPair : {T A B : Type 0} → (T → A) → (T → B) → (A → B → Type 0) → Option T → Type 0
FindsPair {A = A} {B = B} first second P = Finds {A = A × B} (λ t. (first t, second t)) (λ p. P p.0 p.1)
