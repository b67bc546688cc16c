-- The first item that passes a test, where each is looked at.
use Rattle.std.proofs.Common.{◌≡◌, ℕ, zero, suc, ◌+◌, ◌<◌, Bool, true, false, List, [], ◌∷◌, Some, None, length, refl}
use Rattle.std.proofs.Common.{ap, ◌∙◌, arith}
use Rattle.std.specs.Prelude.{position, option_map, slice_get, IfSome}
use Rattle.mp_term.proofs.SignatureLaws.{position-behind, position-first}

module _ {X : Type 0} (p : X → Bool) where
  -- the first item that passes, where none before it does
  pub position-found : (xs : List X) (n : ℕ) (x : X)
      → ((i : ℕ) → i < n → IfSome (slice_get xs i) (λ y. p y ≡ false)) → slice_get xs n ≡ Some x → p x ≡ true
      → position p xs ≡ Some n
  position-found [] n x none at here = cc
  position-found (y ∷ ys) zero x none at here = position-first p y ys (cc)
  position-found (y ∷ ys) (suc n) x none at here =
      let same : n + 1 ≡ suc n = omega arith in
      position-behind p y ys (none 0 (omega arith))
      ∙ ap (option_map (λ i. i + 1)) (position-found ys n x (λ i h. none (suc i) (omega (arith, h))) at here)
      ∙ ap Some same

  -- no item passes
  pub position-absent : (xs : List X) → ((i : ℕ) → i < length xs → IfSome (slice_get xs i) (λ y. p y ≡ false))
      → position p xs ≡ None
  position-absent [] none = refl
  position-absent (x ∷ xs) none = position-behind p x xs (none 0 (omega arith))
      ∙ ap (option_map (λ i. i + 1)) (position-absent xs (λ i h. none (suc i) (omega (arith, h))))
