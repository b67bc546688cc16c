-- A search by ascending choices lists exactly the words that it accepts, strictly ascending.
use Rattle.std.proofs.Common.{◌≡◌, ℕ, zero, suc, List, [], ◌∷◌, ◌++◌, Bool, true, false, map, refl, ap, sym, ◌∙◌, ◌⊎◌}
use Rattle.std.proofs.Common.{inl, inr, subst, length}
use Rattle.std.specs.Prelude.{flat_map, filter, if◌then◌else◌}
use Rattle.std.specs.declared.cmp.Ordering.{Ordering}
use Rattle.std.specs.declared.cmp.Ordering.TheVariants.{Less}
use Rattle.std.specs.Cmp.{IsTotalOrder}
use Rattle.std.specs.Cmp.Lexicographic.{slice_cmp}
use Rattle.std.specs.List.{AllByRecursion}
use Rattle.std.specs.List.Sorted.{IsStrictlySortedBy}
use Rattle.std.proofs.lemmas.Cmp.{tied_itself}
use Rattle.mp_term.proofs.ListLaws.{all-append, all-flat_map}
use Rattle.mp_term.specs.Search.{In, words, Accepts}

-- membership in `++`, `map`, `flat_map` and `filter`, both ways
pub in-left : {X : Type 0} (x : X) (xs ys : List X) → In x xs → In x (xs ++ ys)
in-left x [] ys h = absurd h
in-left x (z ∷ xs) ys (inl e) = inl e
in-left x (z ∷ xs) ys (inr h) = inr (in-left x xs ys h)

pub in-right : {X : Type 0} (x : X) (xs ys : List X) → In x ys → In x (xs ++ ys)
in-right x [] ys h = h
in-right x (z ∷ xs) ys h = inr (in-right x xs ys h)

pub from_in-append : {X : Type 0} (x : X) (xs ys : List X) → In x (xs ++ ys) → In x xs ⊎ In x ys
from_in-append x [] ys h = inr h
from_in-append x (z ∷ xs) ys (inl e) = inl (inl e)
from_in-append x (z ∷ xs) ys (inr h) = elim (from_in-append x xs ys h) [ inl i ↦ inl (inr i) | inr i ↦ inr i ]

pub in-map : {X Y : Type 0} (f : X → Y) (x : X) (xs : List X) → In x xs → In (f x) (map f xs)
in-map f x [] h = absurd h
in-map f x (z ∷ xs) (inl e) = inl (ap f e)
in-map f x (z ∷ xs) (inr h) = inr (in-map f x xs h)

pub from_in-map : {X Y : Type 0} (f : X → Y) (y : Y) (xs : List X) → In y (map f xs) → (x : X) × (y ≡ f x) × In x xs
from_in-map f y [] h = absurd h
from_in-map f y (z ∷ xs) (inl e) = (z, e, inl refl)
from_in-map f y (z ∷ xs) (inr h) = let r = from_in-map f y xs h in (r.0, r.1, inr r.2)

pub in-flat : {X Y : Type 0} (f : X → List Y) (x : X) (y : Y) (xs : List X) → In x xs → In y (f x)
    → In y (flat_map f xs)
in-flat f x y [] h k = absurd h
in-flat f x y (z ∷ xs) (inl e) k = in-left y (f z) (flat_map f xs) (subst (λ w. In y (f w)) e k)
in-flat f x y (z ∷ xs) (inr h) k = in-right y (f z) (flat_map f xs) (in-flat f x y xs h k)

pub from_in-flat : {X Y : Type 0} (f : X → List Y) (y : Y) (xs : List X) → In y (flat_map f xs)
    → (x : X) × In x xs × In y (f x)
from_in-flat f y [] h = absurd h
from_in-flat f y (z ∷ xs) h =
    elim (from_in-append y (f z) (flat_map f xs) h) [
      | inl i ↦ (z, inl refl, i)
      | inr i ↦ let r = from_in-flat f y xs i in (r.0, inr r.1, r.2)
    ]

pub in-filter : {X : Type 0} (p : X → Bool) (x : X) (xs : List X) → In x xs → p x ≡ true → In x (filter p xs)
in-filter p x [] h e = absurd h
in-filter p x (z ∷ xs) (inl q) e = rw (sym (ap p q) ∙ e) (inl q)
in-filter p x (z ∷ xs) (inr h) e = elim (p z) as (λ b. In x (if b then z ∷ filter p xs else filter p xs))
    [ true ↦ inr (in-filter p x xs h e) | false ↦ in-filter p x xs h e ]

pub from_in-filter : {X : Type 0} (p : X → Bool) (x : X) (xs : List X) → In x (filter p xs) → In x xs × (p x ≡ true)
from_in-filter p x [] h = absurd h
from_in-filter p x (z ∷ xs) h =
    elim (p z) as (λ b. p z ≡ b → In x (if b then z ∷ filter p xs else filter p xs) → In x (z ∷ xs) × (p x ≡ true)) [
      | true ↦ λ e i. elim i [ inl q ↦ (inl q, ap p q ∙ e) | inr j ↦ let r = from_in-filter p x xs j in (inr r.0, r.1) ]
      | false ↦ λ e i. let r = from_in-filter p x xs i in (inr r.0, r.1)
    ] refl h

-- a fact about each member
pub all-from_in : {X : Type 0} (P : X → Type 0) (xs : List X) → ((x : X) → In x xs → P x) → AllByRecursion P xs
all-from_in P [] h = tt
all-from_in P (x ∷ xs) h = (h x (inl refl), all-from_in P xs (λ y i. h y (inr i)))

-- `flat_map` depends on what f gives at the members
pub flat_map-same : {X Y : Type 0} (f g : X → List Y) (xs : List X) → ((x : X) → In x xs → f x ≡ g x)
    → flat_map f xs ≡ flat_map g xs
flat_map-same f g [] h = refl
flat_map-same f g (x ∷ xs) h = ap (λ ys. ys ++ flat_map f xs) (h x (inl refl))
    ∙ ap (λ ys. g x ++ ys) (flat_map-same f g xs (λ y i. h y (inr i)))

pub all-map : {X Y : Type 0} (P : Y → Type 0) (f : X → Y) (xs : List X) → ((x : X) → In x xs → P (f x))
    → AllByRecursion P (map f xs)
all-map P f [] h = tt
all-map P f (x ∷ xs) h = (h x (inl refl), all-map P f xs (λ z i. h z (inr i)))

-- lists that ascend, each wholly before the next
pub ascending-append : {X : Type 0} (c : X → X → Ordering) (xs ys : List X) → IsStrictlySortedBy c xs
    → IsStrictlySortedBy c ys → AllByRecursion (λ x. AllByRecursion (λ y. c x y ≡ Less) ys) xs
    → IsStrictlySortedBy c (xs ++ ys)
unfolding IsStrictlySortedBy
ascending-append c [] ys h k m = k
ascending-append c (x ∷ xs) ys h k m =
    (all-append (λ y. c x y ≡ Less) xs ys h.0 m.0, ascending-append c xs ys h.1 k m.1)

-- ascending parts in ascending order
pub ascending-flat : {X Y : Type 0} (d : X → X → Ordering) (c : Y → Y → Ordering) (f : X → List Y) (xs : List X)
    → IsStrictlySortedBy d xs → ((x : X) → IsStrictlySortedBy c (f x))
    → ((x y : X) → d x y ≡ Less → AllByRecursion (λ u. AllByRecursion (λ v. c u v ≡ Less) (f y)) (f x))
    → IsStrictlySortedBy c (flat_map f xs)
unfolding IsStrictlySortedBy
ascending-flat d c f [] h k m = tt
ascending-flat {X = X} {Y = Y} d c f (x ∷ xs) h k m =
    ascending-append c (f x) (flat_map f xs) (k x) (ascending-flat d c f xs h.1 k m) (before (f x) (λ y e. m x y e))
  where
    before : (us : List Y)
        → ((y : X) → d x y ≡ Less → AllByRecursion (λ u. AllByRecursion (λ v. c u v ≡ Less) (f y)) us)
        → AllByRecursion (λ u. AllByRecursion (λ v. c u v ≡ Less) (flat_map f xs)) us
    before [] q = tt
    before (u ∷ us) q =
        (all-flat_map (λ v. c u v ≡ Less) (λ y. d x y ≡ Less) f (λ y e. (q y e).0) xs h.0, before us (λ y e. (q y e).1))

module _ {S E : Type 0} (choices : S → List E) (next : S → E → S) (ends : S → Bool) where
  abbrev Words : ℕ → S → List (List E)
  Words = words choices next ends

  -- the words of no choice
  from_ends : (s : S) (w : List E) → In w (if ends s then [] ∷ [] else []) → (w ≡ []) × (ends s ≡ true)
  from_ends s w = elim (ends s) as (λ b. In w (if b then [] ∷ [] else []) → (w ≡ []) × (b ≡ true))
      [ true ↦ λ h. elim h [ inl e ↦ (e, refl) | inr h ↦ absurd h ] | false ↦ λ h. absurd h ]

  -- the words are exactly what the search accepts
  pub words-complete : (s : S) (w : List E) → Accepts choices next ends s w → In w (Words (length w) s)
  words-complete s [] h = rw h (inl refl)
  words-complete s (e ∷ w) h = in-flat (λ d. map (λ v. d ∷ v) (Words (length w) (next s d))) e (e ∷ w) (choices s) h.0
      (in-map (λ v. e ∷ v) w (Words (length w) (next s e)) (words-complete (next s e) w h.1))

  pub words-sound : (n : ℕ) (s : S) (w : List E) → In w (Words n s) → (length w ≡ n) × Accepts choices next ends s w
  words-sound zero s w h = let r = from_ends s w h in (ap length r.0, subst (Accepts choices next ends s) (sym r.0) r.1)
  words-sound (suc n) s w h =
      let a = from_in-flat (λ d. map (λ v. d ∷ v) (Words n (next s d))) w (choices s) h in
      let b = from_in-map (λ v. a.0 ∷ v) w (Words n (next s a.0)) a.2 in
      let c = words-sound n (next s a.0) b.0 b.2 in
      (ap length b.1 ∙ ap suc c.0, subst (Accepts choices next ends s) (sym b.1) (a.1, c.1))

  module _ (cmp : E → E → Ordering) (o : IsTotalOrder cmp) (ascend : (s : S) → IsStrictlySortedBy cmp (choices s)) where
    -- words with the same first choice
    after_same : (e : E) (v w : List E) → slice_cmp cmp (e ∷ v) (e ∷ w) ≡ slice_cmp cmp v w
    after_same e v w = rw (tied_itself o e) refl

    ascending-front : (e : E) (ws : List (List E)) → IsStrictlySortedBy (slice_cmp cmp) ws
        → IsStrictlySortedBy (slice_cmp cmp) (map (λ w. e ∷ w) ws)
    unfolding IsStrictlySortedBy
    ascending-front e [] h = tt
    ascending-front e (w ∷ ws) h = (above w ws h.0, ascending-front e ws h.1)
      where
        above : (w : List E) (ws : List (List E)) → AllByRecursion (λ v. slice_cmp cmp w v ≡ Less) ws
            → AllByRecursion (λ v. slice_cmp cmp (e ∷ w) v ≡ Less) (map (λ v. e ∷ v) ws)
        above w [] k = tt
        above w (v ∷ ws) k = (after_same e w v ∙ k.0, above w ws k.1)

    -- the words ascend, item by item, where the choices do
    pub words-ascending : (n : ℕ) (s : S) → IsStrictlySortedBy (slice_cmp cmp) (Words n s)
    unfolding IsStrictlySortedBy
    words-ascending zero s = elim (ends s) as (λ b. IsStrictlySortedBy (slice_cmp cmp) (if b then [] ∷ [] else []))
        [ true ↦ (tt, tt) | false ↦ tt ]
    words-ascending (suc n) s =
        ascending-flat cmp (slice_cmp cmp) (λ e. map (λ w. e ∷ w) (Words n (next s e))) (choices s) (ascend s)
        (λ e. ascending-front e (Words n (next s e)) (words-ascending n (next s e)))
        (λ d e l. all-map (λ u. AllByRecursion (λ v. slice_cmp cmp u v ≡ Less) (map (λ w. e ∷ w) (Words n (next s e))))
        (λ w. d ∷ w) (Words n (next s d))
        (λ u i. all-map (λ v. slice_cmp cmp (d ∷ u) v ≡ Less) (λ w. e ∷ w) (Words n (next s e)) (λ v j. rw l refl)))
