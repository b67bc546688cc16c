-- Lists in which one item is set, item by item from the left.
use Rattle.std.proofs.Common.{◌≡◌, ◌<◌, ◌≤◌, ◌+◌, ◌-◌, ℕ, zero, suc, List, [], ◌∷◌, ◌++◌, length, map, take, drop, refl}
use Rattle.std.proofs.Common.{ap, sym, ◌∙◌, subst, arith, add-one}
use Rattle.std.specs.Prelude.{slice_set, slice_index_or, slice_get, None}
use Rattle.std.specs.List.{AllByRecursion}
use Rattle.std.proofs.lemmas.List.{length-map, take_all}

taken-set : {X Y : Type 0} (f : X → Y) (xs : List X) (i : ℕ) (x : X) → i < length xs
    → map f (take (suc i) (slice_set xs i x)) ≡ map f (take i xs) ++ f x ∷ []
taken-set f [] i x h = absurd (omega (arith, h))
taken-set f (y ∷ xs) zero x h = refl
taken-set f (y ∷ xs) (suc i) x h = ap (λ ys. f y ∷ ys) (taken-set f xs i x (omega (arith, h)))

taken-more : {X Y : Type 0} (f : X → Y) (xs : List X) (i : ℕ) (x : X) → i < length xs
    → map f (take (suc i) xs) ≡ map f (take i xs) ++ f (slice_index_or xs i x) ∷ []
taken-more f [] i x h = absurd (omega (arith, h))
taken-more f (y ∷ xs) zero x h = refl
taken-more f (y ∷ xs) (suc i) x h = ap (λ ys. f y ∷ ys) (taken-more f xs i x (omega (arith, h)))

-- one item more is taken
pub map-take : {X Y : Type 0} (f : X → Y) (xs : List X) (i : ℕ) (d : X) → i < length xs
    → map f (take (i + 1) xs) ≡ map f (take i xs) ++ f (slice_index_or xs i d) ∷ []
map-take f xs i d h = subst (λ n. map f (take n xs) ≡ map f (take i xs) ++ f (slice_index_or xs i d) ∷ [])
    (sym (add-one i)) (taken-more f xs i d h)

-- one item more is as it should be
pub taken-step : {X Y Z : Type 0} (f : X → Z) (g : Y → Z) (xs : List X) (ys : List Y) (i : ℕ) (x : X) (y : Y)
    → i < length xs → i < length ys → map f (take i xs) ≡ map g (take i ys) → f x ≡ g (slice_index_or ys i y)
    → map f (take (i + 1) (slice_set xs i x)) ≡ map g (take (i + 1) ys)
taken-step f g xs ys i x y h k e q =
    subst (λ n. map f (take n (slice_set xs i x)) ≡ map g (take n ys)) (sym (add-one i))
    (taken-set f xs i x h ∙ ap (λ zs. zs ++ f x ∷ []) e ∙ ap (λ z. map g (take i ys) ++ z ∷ []) q
    ∙ sym (taken-more g ys i y k))

pub set-same : {X Y : Type 0} (f : X → Y) (xs : List X) (i : ℕ) (x d : X) → i < length xs
    → f x ≡ f (slice_index_or xs i d) → map f (slice_set xs i x) ≡ map f xs
set-same f [] i x d h e = absurd (omega (arith, h))
set-same f (y ∷ xs) zero x d h e = ap (λ z. z ∷ map f xs) e
set-same f (y ∷ xs) (suc i) x d h e = ap (λ zs. f y ∷ zs) (set-same f xs i x d (omega (arith, h)) e)

pub got-within : {X : Type 0} (xs : List X) (i : ℕ) → slice_get xs i ≡ None → length xs ≤ i
got-within [] i e = omega arith
got-within (y ∷ xs) zero e = cc
got-within (y ∷ xs) (suc i) e = omega (arith, got-within xs i e)

pub same-lengths : {X Y Z : Type 0} (f : X → Z) (g : Y → Z) (xs : List X) (ys : List Y) → map f xs ≡ map g ys
    → length xs ≡ length ys
same-lengths f g xs ys e = sym (length-map xs f) ∙ ap length e ∙ length-map ys g

pub all-mapped : {X Y : Type 0} (P : Y → Type 0) (f : X → Y) (xs : List X) (i : ℕ) (d : X)
    → AllByRecursion P (map f xs) → i < length xs → P (f (slice_index_or xs i d))
all-mapped P f [] i d h k = absurd (omega (arith, k))
all-mapped P f (x ∷ xs) zero d h k = h.0
all-mapped P f (x ∷ xs) (suc i) d h k = all-mapped P f xs i d h.1 (omega (arith, k))

pub rest-whole : {X : Type 0} (xs : List X) → 1 ≤ length xs → take (length xs - 1) (drop 1 xs) ≡ drop 1 xs
rest-whole [] h = absurd (omega (arith, h))
rest-whole (x ∷ xs) h = take_all (length (x ∷ xs) - 1) xs (omega arith)
