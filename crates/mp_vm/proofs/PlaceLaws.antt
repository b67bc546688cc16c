-- The places of names among v0, v1 and so on: the place of the name of a small number is the number, and a name whose
-- place is small is that of its place.
use Rattle.std.proofs.Common.{◌≡◌, ℕ, zero, suc, ◌+◌, ◌<◌, ◌≤◌, List, [], ◌∷◌, length, Bool, true, false, refl}
use Rattle.std.proofs.Common.{ap, sym, ◌∙◌, inl, inr, subst, arith}
use Rattle.std.specs.Prelude.{◌||◌, ◌^◌, if◌then◌else◌, nat_lt, decimal}
use Rattle.std.proofs.lemmas.Bool.{cases_lt, lt-ltb, ltb-true}
use Rattle.std.proofs.lemmas.Fmt.{decimal_injective}
use Rattle.mp_io.specs.Devices.{Text}
use Rattle.mp_term.specs.Listing.{In}
use Rattle.mp_term.proofs.ListLaws.{bool_same}
use Rattle.mp_term.proofs.SearchLaws.{in-left, in-right}
use Rattle.mp_pattern.specs.declared.limits.TheConstants.{MAX_VARIABLES}
use Rattle.mp_pattern.specs.Firsts.{is_known}
use Rattle.mp_pattern.specs.NetTokens.{number_in, numbered}
use Rattle.mp_pattern.specs.Value.{same_name}
use Rattle.mp_pattern.proofs.NameLaws.{same_name-is, same_name-itself}
use Rattle.mp_theory.proofs.FirstItems.{known-in}
use Rattle.mp_walk.specs.Walkable.{numbered_names}
use Rattle.mp_walk.proofs.NumberedNames.{length-numbered_names, number_in-less, numbered-number_in}
use Rattle.mp_walk.proofs.Renaming.{number_in-most}
use Rattle.mp_vm.specs.Looks.{place_of}

-- ---- numbered names

-- the name of each number below is there
in-names : (m k : ℕ) → k < m → In (numbered k) (numbered_names m)
in-names zero k h = absurd (omega arith)
in-names (suc m) k h = elim (cases_lt k m) [
  | inl l ↦ in-left (numbered k) (numbered_names m) (numbered m ∷ []) (in-names m k l)
  | inr l ↦ in-right (numbered k) (numbered_names m) (numbered m ∷ [])
      (inl (let e : k ≡ m = omega arith in ap numbered e))
]

-- no two numbers have one name
numbered-same : (m n : ℕ) → m < 2 ^ 64 → n < 2 ^ 64 → numbered m ≡ numbered n → m ≡ n
numbered-same m n small short h =
    let e : 118 ∷ decimal m ≡ 118 ∷ decimal n = h in
    let d : decimal m ≡ decimal n = cc in
    decimal_injective m n small short d

-- a name before which fewer stand than there are is one of them
number_in-in : (xs : List Text) (x : Text) → number_in xs x < length xs → In x xs
number_in-in [] x h = absurd (omega arith)
number_in-in (y ∷ ys) x h = by_test (same_name y x) refl h (λ l. number_in-in ys x l)
  where
    by_test : (b : Bool) → same_name y x ≡ b → (if b then 0 else number_in ys x + 1) < length (y ∷ ys)
        → (number_in ys x < length ys → In x ys) → In x (y ∷ ys)
    by_test true e l go = inl (sym (same_name-is y x e))
    by_test false e l go = inr (go (omega (arith, l)))

in-known : (ys : List Text) (x : Text) → In x ys → is_known same_name ys x ≡ true
in-known [] x i = absurd i
in-known (y ∷ ys) x (inl e) = ap (λ b. b || is_known same_name ys x)
    (ap (λ z. same_name z x) (sym e) ∙ same_name-itself x)
in-known (y ∷ ys) x (inr i) = elim (same_name y x) as (λ b. (b || is_known same_name ys x) ≡ true)
    [ true ↦ refl | false ↦ in-known ys x i ]

-- ---- places

module _ (most : ℕ) (few : most < 2 ^ 64) where
  abbrev place : Text → ℕ
  place x = number_in (numbered_names most) x

  place-most : (x : Text) → place x ≤ most
  place-most x = omega (arith, number_in-most (numbered_names most) x, length-numbered_names most)

  in-place : (x : Text) → place x < most → In x (numbered_names most)
  in-place x h = number_in-in (numbered_names most) x (omega (arith, h, length-numbered_names most))

  place-named : (x : Text) → In x (numbered_names most) → numbered (place x) ≡ x
  place-named x i = numbered-number_in (numbered_names most) (ap numbered_names (sym (length-numbered_names most))) x i

  place-number : (n : ℕ) → n < most → place (numbered n) ≡ n
  place-number n h =
      let i = in-names most n h in
      let l = number_in-less (numbered_names most) (numbered n) i in
      numbered-same (place (numbered n)) n (omega (arith, l, length-numbered_names most, few)) (omega (arith, h, few))
      (place-named (numbered n) i)

  place-none : (x : Text) → ((n : ℕ) → n < most → numbered n ≡ x → ⊥) → place x ≡ most
  place-none x none = elim (cases_lt (place x) most) [
    | inl l ↦ absurd (none (place x) l (place-named x (in-place x l)))
    | inr g ↦ omega (arith, g, place-most x)
  ]

  place-beyond : (n : ℕ) → most ≤ n → n < 2 ^ 64 → place (numbered n) ≡ most
  place-beyond n h short = place-none (numbered n)
      (λ m l e. (let same = numbered-same m n (omega (arith, l, few)) short e in absurd (omega (arith, same, l, h))))

  known-names : (m : ℕ) (x : Text) → m ≤ most → is_known same_name (numbered_names m) x ≡ nat_lt (place x) m
  known-names m x h = bool_same (is_known same_name (numbered_names m) x) (nat_lt (place x) m)
      (λ e.
      let i = known-in same_name same_name-is (numbered_names m) x e in
      let k = number_in (numbered_names m) x in
      let l : k < m = omega (arith, number_in-less (numbered_names m) x i, length-numbered_names m) in
      let n : numbered k ≡ x =
      numbered-number_in (numbered_names m) (ap numbered_names (sym (length-numbered_names m))) x i in
      let p : place x ≡ k = ap place (sym n) ∙ place-number k (omega (arith, l, h)) in
      lt-ltb (place x) m (omega (arith, p, l)))
      (λ e.
      let l = ltb-true (place x) m e in
      in-known (numbered_names m) x
      (subst (λ y. In y (numbered_names m)) (place-named x (in-place x (omega (arith, l, h))))
      (in-names m (place x) l)))

-- ---- among v0 to v31

limit : MAX_VARIABLES < 2 ^ 64
limit = omega arith

-- the place of the name of a number is the number
pub place_of-number : (n : ℕ) → n < MAX_VARIABLES → place_of (numbered n) ≡ n
unfolding place_of
place_of-number n h = place-number MAX_VARIABLES limit n h

-- unless it is too great
pub place_of-beyond : (n : ℕ) → MAX_VARIABLES ≤ n → n < 2 ^ 64 → place_of (numbered n) ≡ MAX_VARIABLES
unfolding place_of
place_of-beyond n h short = place-beyond MAX_VARIABLES limit n h short

-- so it is with a name that isn't that of a number
pub place_of-none : (x : Text) → ((n : ℕ) → n < MAX_VARIABLES → numbered n ≡ x → ⊥) → place_of x ≡ MAX_VARIABLES
unfolding place_of
place_of-none x none = place-none MAX_VARIABLES limit x none

-- a name whose place is small is that of the number
pub named-place_of : (x : Text) → place_of x < MAX_VARIABLES → numbered (place_of x) ≡ x
unfolding place_of
named-place_of x h = place-named MAX_VARIABLES limit x (in-place MAX_VARIABLES limit x h)

-- a name is among the first ones where its place is below their number
pub known-place_of : (m : ℕ) (x : Text) → m ≤ MAX_VARIABLES
    → is_known same_name (numbered_names m) x ≡ nat_lt (place_of x) m
unfolding place_of
known-place_of m x h = known-names MAX_VARIABLES limit m x h
