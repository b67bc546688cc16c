-- What holds of each item of a list, the item at an index, and tests that are the same.
use Rattle.std.proofs.Common.{◌≡◌, ℕ, zero, suc, subst, ◌+◌, ◌<◌, List, [], ◌∷◌, ◌++◌, map, length, get_or, take, drop}
use Rattle.std.proofs.Common.{drop-cons, add-one, arith, Bool, true, false, refl, ap, sym, ◌∙◌, ◌⊎◌, inl, inr}
use Rattle.std.specs.Prelude.{flat_map, Some, None, slice_get, slice_index_or, slice_set}
use Rattle.std.specs.List.{AllByRecursion, list_all}
use Rattle.std.proofs.lemmas.Bool.{and_parts}
use Rattle.std.proofs.lemmas.List.{map-append, take-map, drop-map}
use Rattle.std.proofs.lemmas.Option.{slice_get_within, get_or_from_slice_get}

-- what holds of the items of two lists holds of those of both
pub all-append : {X : Type 0} (P : X → Type 0) (xs ys : List X) → AllByRecursion P xs → AllByRecursion P ys
    → AllByRecursion P (xs ++ ys)
all-append P [] ys h k = k
all-append P (x ∷ xs) ys h k = (h.0, all-append P xs ys h.1 k)

-- and back
pub all-split : {X : Type 0} (P : X → Type 0) (xs ys : List X) → AllByRecursion P (xs ++ ys)
    → AllByRecursion P xs × AllByRecursion P ys
all-split P [] ys h = (tt, h)
all-split P (x ∷ xs) ys h = let r = all-split P xs ys h.1 in ((h.0, r.0), r.1)

-- what holds of each item gives another fact of it
pub all-also : {X : Type 0} (P Q : X → Type 0) → ((x : X) → P x → Q x) → (xs : List X) → AllByRecursion P xs
    → AllByRecursion Q xs
all-also P Q each [] h = tt
all-also P Q each (x ∷ xs) h = (each x h.0, all-also P Q each xs h.1)

-- and a fact of its image
pub all-map : {X Y : Type 0} (P : X → Type 0) (Q : Y → Type 0) (f : X → Y) → ((x : X) → P x → Q (f x)) → (xs : List X)
    → AllByRecursion P xs → AllByRecursion Q (map f xs)
all-map P Q f each [] h = tt
all-map P Q f each (x ∷ xs) h = (each x h.0, all-map P Q f each xs h.1)

-- and a fact of each item that f gives of it
pub all-flat_map : {X Y : Type 0} (P : X → Type 0) (Q : Y → Type 0) (f : Y → List X)
    → ((y : Y) → Q y → AllByRecursion P (f y)) → (ys : List Y) → AllByRecursion Q ys → AllByRecursion P (flat_map f ys)
all-flat_map P Q f each [] h = tt
all-flat_map P Q f each (y ∷ ys) h = all-append P (f y) (flat_map f ys) (each y h.0) (all-flat_map P Q f each ys h.1)

-- the items from an index on are the item there and those behind it
pub drop-item : {X : Type 0} (items : List X) (i : ℕ) (x : X) → i < length items → x ≡ get_or items i x
    → drop i items ≡ x ∷ drop (i + 1) items
drop-item items i x within is = drop-cons items i x within ∙ (λ j. sym is j ∷ drop (sym (add-one i) j) items)

pub drop-at : {X : Type 0} (xs : List X) (i : ℕ) (x : X) → slice_get xs i ≡ Some x → drop i xs ≡ x ∷ drop (i + 1) xs
drop-at xs i x e = drop-item xs i x (slice_get_within xs i x e) (sym (get_or_from_slice_get xs i x x e))

-- the same, by the next number
pub drop-held : {X : Type 0} (xs : List X) (i : ℕ) (x : X) → slice_get xs i ≡ Some x → drop i xs ≡ x ∷ drop (suc i) xs
drop-held [] i x e = cc
drop-held (y ∷ ys) zero x e = let same : y ≡ x = cc in ap (λ z. z ∷ ys) same
drop-held (y ∷ ys) (suc i) x e = drop-held ys i x e

-- from where no item is on, there is none
pub drop-none : {X : Type 0} (xs : List X) (i : ℕ) → slice_get xs i ≡ None → drop i xs ≡ []
drop-none [] zero e = refl
drop-none [] (suc i) e = refl
drop-none (y ∷ ys) zero e = cc
drop-none (y ∷ ys) (suc i) e = drop-none ys i e

-- an item of a list with one more is one of the list, or the last
pub slice_get-pushed : {X : Type 0} (xs : List X) (x y : X) (i : ℕ) → slice_get (xs ++ x ∷ []) i ≡ Some y
    → (slice_get xs i ≡ Some y) ⊎ ((i ≡ length xs) × (x ≡ y))
slice_get-pushed [] x y zero e = let same : Some x ≡ Some y = e in inr (refl, cc)
slice_get-pushed [] x y (suc i) e = cc
slice_get-pushed (z ∷ xs) x y zero e = inl e
slice_get-pushed (z ∷ xs) x y (suc i) e =
    elim (slice_get-pushed xs x y i e) [ inl h ↦ inl h | inr h ↦ inr (ap suc h.0, h.1) ]

-- an item put in at a place, and mapped
pub map-insert : {X Y : Type 0} (f : X → Y) (i : ℕ) (xs : List X) (x : X)
    → map f (take i xs ++ (x ∷ drop i xs)) ≡ take i (map f xs) ++ (f x ∷ drop i (map f xs))
map-insert f i xs x = map-append f (take i xs) (x ∷ drop i xs)
    ∙ ap (λ ys. ys ++ (f x ∷ map f (drop i xs))) (sym (take-map f i xs))
    ∙ ap (λ ys. take i (map f xs) ++ (f x ∷ ys)) (sym (drop-map f i xs))

-- an item taken out of its place, and mapped
pub map-remove : {X Y : Type 0} (f : X → Y) (i : ℕ) (xs : List X)
    → map f (take i xs ++ drop (suc i) xs) ≡ take i (map f xs) ++ drop (suc i) (map f xs)
map-remove f i xs = map-append f (take i xs) (drop (suc i) xs)
    ∙ (λ j. sym (take-map f i xs) j ++ sym (drop-map f (suc i) xs) j)

-- tests that pass in the same cases are the same
pub bool_same : (a b : Bool) → (a ≡ true → b ≡ true) → (b ≡ true → a ≡ true) → a ≡ b
bool_same true b f g = sym (f refl)
bool_same false true f g = g refl
bool_same false false f g = refl

-- an item that stands in a list passes a test that all of them pass
pub all-at : {X : Type 0} (p : X → Bool) (xs : List X) (i : ℕ) (x : X) → list_all p xs ≡ true → slice_get xs i ≡ Some x
    → p x ≡ true
all-at p [] i x h e = cc
all-at p (y ∷ ys) zero x h e = let same : y ≡ x = cc in subst (λ z. p z ≡ true) same (and_parts _ _ h).0
all-at p (y ∷ ys) (suc i) x h e = all-at p ys i x (and_parts _ _ h).1 e

-- what holds of each item holds of the one at an index
pub all-get : {X : Type 0} (P : X → Type 0) (xs : List X) (i : ℕ) (x : X) → AllByRecursion P xs
    → slice_get xs i ≡ Some x → P x
all-get P [] i x h e = cc
all-get P (y ∷ xs) zero x h e = let same : y ≡ x = cc in subst P same h.0
all-get P (y ∷ xs) (suc i) x h e = all-get P xs i x h.1 e

pub all-index : {X : Type 0} (P : X → Type 0) (xs : List X) (i : ℕ) (d : X) → AllByRecursion P xs → i < length xs
    → P (slice_index_or xs i d)
all-index P [] i d h k = absurd (omega (arith, k))
all-index P (y ∷ xs) zero d h k = h.0
all-index P (y ∷ xs) (suc i) d h k = all-index P xs i d h.1 (omega (arith, k))

-- and of each where an item is written of which it holds
pub all-set : {X : Type 0} (P : X → Type 0) (xs : List X) (i : ℕ) (x : X) → AllByRecursion P xs → P x
    → AllByRecursion P (slice_set xs i x)
all-set P [] i x h own = tt
all-set P (y ∷ xs) zero x h own = (own, h.1)
all-set P (y ∷ xs) (suc i) x h own = (h.0, all-set P xs i x h.1 own)

-- within a list neither the default matters nor what stands behind
pub get_or-same : {X : Type 0} (xs : List X) (i : ℕ) (c d : X) → i < length xs → get_or xs i c ≡ get_or xs i d
get_or-same [] i c d h = absurd (omega (arith, h))
get_or-same (x ∷ xs) zero c d h = refl
get_or-same (x ∷ xs) (suc i) c d h = get_or-same xs i c d (omega (arith, h))

pub get_or-front : {X : Type 0} (xs ys : List X) (i : ℕ) (d : X) → i < length xs → get_or (xs ++ ys) i d ≡ get_or xs i d
get_or-front [] ys i d h = absurd (omega arith)
get_or-front (x ∷ xs) ys zero d h = refl
get_or-front (x ∷ xs) ys (suc i) d h = get_or-front xs ys i d (omega arith)

-- two lists of which nothing comes are empty
pub both-empty : {X : Type 0} (xs ys : List X) → xs ++ ys ≡ [] → (xs ≡ []) × (ys ≡ [])
both-empty [] ys e = (refl, e)
both-empty (x ∷ xs) ys e = cc

-- what two options hold that are the same is the same
pub some-same : {X : Type 0} (x y : X) → Some x ≡ Some y → x ≡ y
some-same x y e = cc
