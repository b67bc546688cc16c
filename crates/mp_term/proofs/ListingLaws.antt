-- Members of lists, and ascending lists: a fact has one listing in a total order.
use Rattle.std.proofs.Common.{◌≡◌, zero, suc, ◌<◌, ℕ, List, [], ◌∷◌, refl, sym, ap, ◌∙◌, inl, inr, subst, length}
use Rattle.std.proofs.Common.{get_or, arith, Bool, true}
use Rattle.std.specs.Prelude.{Contains, Some, slice_get}
use Rattle.std.specs.declared.cmp.Ordering.{Ordering}
use Rattle.std.specs.declared.cmp.Ordering.TheVariants.{Less, Equal}
use Rattle.std.specs.Cmp.{IsTotalOrder}
use Rattle.std.specs.List.{AllByRecursion, list_all}
use Rattle.std.specs.List.Sorted.{IsStrictlySortedBy}
use Rattle.std.proofs.lemmas.Bool.{and_parts}
use Rattle.std.proofs.lemmas.Cmp.{tied_itself}
use Rattle.mp_term.specs.Listing.{In, IsListing}

-- membership by recursion and by index are one
pub contains-from_in : {X : Type 0} (x : X) (xs : List X) → In x xs → Contains xs x
contains-from_in x [] h = absurd h
contains-from_in x (y ∷ ys) (inl e) = (0, omega arith, sym e)
contains-from_in x (y ∷ ys) (inr h) = let r = contains-from_in x ys h in (suc r.0, omega (arith, r.1), r.2)

in-at : {X : Type 0} (x : X) (xs : List X) (k : ℕ) → k < length xs → get_or xs k x ≡ x → In x xs
in-at x [] k h e = absurd (omega arith)
in-at x (y ∷ ys) zero h e = inl (sym e)
in-at x (y ∷ ys) (suc k) h e = inr (in-at x ys k (omega arith) e)

pub in-from_contains : {X : Type 0} (x : X) (xs : List X) → Contains xs x → In x xs
in-from_contains x xs h = in-at x xs h.0 h.1 h.2

-- a member stands at some index
pub place-in : {X : Type 0} (x : X) (xs : List X) → In x xs → (i : ℕ) × (slice_get xs i ≡ Some x)
place-in x [] h = absurd h
place-in x (y ∷ xs) (inl e) = (zero, ap Some (sym e))
place-in x (y ∷ xs) (inr h) = let r = place-in x xs h in (suc r.0, r.1)

-- what holds of each item holds of a member
pub all_in : {X : Type 0} (P : X → Type 0) (xs : List X) (x : X) → AllByRecursion P xs → In x xs → P x
all_in P [] x h i = absurd i
all_in P (y ∷ ys) x h (inl e) = subst P (sym e) h.0
all_in P (y ∷ ys) x h (inr i) = all_in P ys x h.1 i

-- a test that all items pass is passed by a member
pub list_all-in : {X : Type 0} (test : X → Bool) (xs : List X) (x : X) → list_all test xs ≡ true → In x xs
    → test x ≡ true
list_all-in test [] x h i = absurd i
list_all-in test (y ∷ xs) x h (inl e) = ap test e ∙ (and_parts (test y) (list_all test xs) h).0
list_all-in test (y ∷ xs) x h (inr i) = list_all-in test xs x (and_parts (test y) (list_all test xs) h).1 i

module _ {X : Type 0} (cmp : X → X → Ordering) (o : IsTotalOrder cmp) where
  -- nothing is less than itself, nor less both ways
  pub irreflexive : (x : X) → cmp x x ≡ Less → ⊥
  irreflexive x e = let q : Less ≡ Equal = sym e ∙ tied_itself o x in cc

  pub one_way : (x y : X) → cmp x y ≡ Less → cmp y x ≡ Less → ⊥
  one_way x y p q = irreflexive x (o.trans x y x p q)

  -- what is less than an item is less than those that the item is less than
  pub less_than_all : (x y : X) (ys : List X) → cmp x y ≡ Less → AllByRecursion (λ z. cmp y z ≡ Less) ys
      → AllByRecursion (λ z. cmp x z ≡ Less) ys
  less_than_all x y [] e h = tt
  less_than_all x y (z ∷ ys) e h = (o.trans x y z e h.0, less_than_all x y ys e h.1)

  heads_same : (x y : X) (xs ys : List X) → AllByRecursion (λ z. cmp x z ≡ Less) xs
      → AllByRecursion (λ z. cmp y z ≡ Less) ys → In x (y ∷ ys) → In y (x ∷ xs) → x ≡ y
  heads_same x y xs ys h k (inl e) j = e
  heads_same x y xs ys h k (inr i) (inl e) = sym e
  heads_same x y xs ys h k (inr i) (inr j) =
      absurd (one_way x y (all_in (λ z. cmp x z ≡ Less) xs y h j) (all_in (λ z. cmp y z ≡ Less) ys x k i))

  behind_head : (x z : X) (xs ys : List X) → AllByRecursion (λ w. cmp x w ≡ Less) xs → In z xs → In z (x ∷ ys) → In z ys
  behind_head x z xs ys h i (inl e) = absurd
      (irreflexive x (subst (λ w. cmp x w ≡ Less) e (all_in (λ w. cmp x w ≡ Less) xs z h i)))
  behind_head x z xs ys h i (inr j) = j

  -- two strictly ascending lists with the same members are the same
  pub same_members : (xs ys : List X) → IsStrictlySortedBy cmp xs → IsStrictlySortedBy cmp ys
      → ((x : X) → In x xs → In x ys) → ((x : X) → In x ys → In x xs) → xs ≡ ys
  unfolding IsStrictlySortedBy
  same_members [] [] h k f g = refl
  same_members [] (y ∷ ys) h k f g = absurd (g y (inl refl))
  same_members (x ∷ xs) [] h k f g = absurd (f x (inl refl))
  same_members (x ∷ xs) (y ∷ ys) h k f g =
      let e : x ≡ y = heads_same x y xs ys h.0 k.0 (f x (inl refl)) (g y (inl refl)) in
      let later : AllByRecursion (λ w. cmp x w ≡ Less) ys =
      subst (λ z. AllByRecursion (λ w. cmp z w ≡ Less) ys) (sym e) k.0 in
      let r : xs ≡ ys = same_members xs ys h.1 k.1
      (λ z i. behind_head x z xs ys h.0 i (subst (λ w. In z (w ∷ ys)) (sym e) (f z (inr i))))
      (λ z i. behind_head x z ys xs later i (g z (inr i))) in
      ap (λ z. z ∷ xs) e ∙ ap (λ zs. y ∷ zs) r

  -- a fact has one listing at most
  pub unique_listing : (P : X → Type 0) (xs ys : List X) → IsListing cmp P xs → IsListing cmp P ys → xs ≡ ys
  unique_listing P xs ys h k =
      same_members xs ys h.ascending k.ascending
      (λ x i. in-from_contains x ys ((k.exactly x).1 ((h.exactly x).0 (contains-from_in x xs i))))
      (λ x i. in-from_contains x xs ((h.exactly x).1 ((k.exactly x).0 (contains-from_in x ys i))))
