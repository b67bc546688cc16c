-- Lists: first items, tests of items and places of items.
use Rattle.std.proofs.Common.{◌≡◌, Bool, false, List, [], ◌∷◌, refl, inl, inr}
use Rattle.std.specs.List.{list_any}
use Rattle.mp_term.specs.Listing.{In}

-- ---- the first item

pub first-same : {X : Type 0} (x y : X) (xs ys : List X) → x ∷ xs ≡ y ∷ ys → x ≡ y
first-same x y xs ys e = cc

pub rest-same : {X : Type 0} (x y : X) (xs ys : List X) → x ∷ xs ≡ y ∷ ys → xs ≡ ys
rest-same x y xs ys e = cc

-- ---- tests

-- no item passes
pub list_any-none : {X : Type 0} (test : X → Bool) (xs : List X) → ((x : X) → In x xs → test x ≡ false)
    → list_any test xs ≡ false
list_any-none test [] h = refl
list_any-none test (x ∷ xs) h = rw (h x (inl refl), list_any-none test xs (λ y i. h y (inr i))) refl
