-- The numbers of variables in a trail for three.
use Rattle.std.specs.Prelude.{◌≡◌, ◌<◌, ℕ, List, Some, slice_get}
use Rattle.std.specs.List.{AllByRecursion}

-- each is one of the trail's, and stands once
pub record AreNumbers (vs : List ℕ) : Type 0 where
  pub below : AllByRecursion (λ v. v < 3) vs
  pub distinct : (i j v : ℕ) → slice_get vs i ≡ Some v → slice_get vs j ≡ Some v → i ≡ j
