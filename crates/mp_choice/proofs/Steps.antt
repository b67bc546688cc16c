-- Steps give the items of a generator in turn.
use Rattle.std.proofs.Common.{◌≡◌, ℕ, zero, suc, ◌+◌, List, [], ◌∷◌, refl, ap, ◌∙◌, drop, arith}
use Rattle.std.specs.Prelude.{slice_get}
use Rattle.std.proofs.lemmas.List.{drop-drop}
use Rattle.mp_choice.specs.Choices.{Choices, advanced, advanced_by}

slice_get-drop : {X : Type 0} (k : ℕ) (xs : List X) → slice_get (drop 1 xs) k ≡ slice_get xs (suc k)
slice_get-drop k [] = refl
slice_get-drop k (x ∷ xs) = refl

pub to_come-advanced_by : (k : ℕ) (c : Choices) → (advanced_by k c).to_come ≡ drop k c.to_come
to_come-advanced_by zero c = refl
to_come-advanced_by (suc k) c = to_come-advanced_by k (advanced c)
    ∙ (drop-drop k 1 c.to_come ∙ let e : 1 + k ≡ suc k = omega arith in ap (λ n. drop n c.to_come) e)

pub item-advanced_by : (k : ℕ) (c : Choices) → (advanced_by (suc k) c).item ≡ slice_get c.to_come k
item-advanced_by zero c = refl
item-advanced_by (suc k) c = item-advanced_by k (advanced c) ∙ slice_get-drop k c.to_come
