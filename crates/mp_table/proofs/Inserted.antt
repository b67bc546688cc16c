-- An item put in where it belongs: what ascends still ascends, and all that was there is there. What ascends is no
-- longer than a list that has all of it.
use Rattle.std.proofs.Common.{◌≡◌, ◌∙◌, ℕ, zero, suc, ◌-◌, ◌<◌, ◌≤◌, List, [], ◌∷◌, length, get_or, drop, drop-cons}
use Rattle.std.proofs.Common.{Bool, true, false, refl, ap, sym, subst, inl, inr, arith, ◌||◌, ◌+◌, set, take}
use Rattle.std.specs.Prelude.{nat_lt}
use Rattle.std.specs.declared.cmp.Ordering.{Ordering}
use Rattle.std.specs.declared.cmp.Ordering.TheVariants.{Less, Equal, Greater}
use Rattle.std.specs.Ordering.{is_eq, eq_by_cmp, ordering_reverse}
use Rattle.std.specs.Cmp.{IsTotalOrder}
use Rattle.std.specs.List.{AllByRecursion, insert}
use Rattle.std.specs.List.Sorted.{IsStrictlySortedBy}
use Rattle.std.specs.Set.{is_member}
use Rattle.std.proofs.lemmas.Bool.Decides.{nat_tests}
use Rattle.std.proofs.lemmas.Cmp.{eq_by_cmp_equiv, tied_itself}
use Rattle.std.proofs.lemmas.List.{get_or-set_other, get_or-take}
use Rattle.std.proofs.lemmas.List.Edits.{get_or-insert_below}
use Rattle.std.proofs.lemmas.Map.Keys.{IsDistinct-from_sorted, Less-from_sorted}
use Rattle.std.proofs.lemmas.Map.Made.{length-le_from_is_member}
use Rattle.std.proofs.Math.Seq.{take-set-lt}
use Rattle.mp_term.specs.Listing.{In}
use Rattle.mp_term.proofs.ListLaws.{all-also}

-- an empty list ascends
pub none_ascend : {X : Type 0} (cmp : X → X → Ordering) (xs : List X) → xs ≡ [] → IsStrictlySortedBy cmp xs
unfolding IsStrictlySortedBy
none_ascend cmp [] e = tt
none_ascend cmp (x ∷ xs) e = cc

-- what holds of each item holds of each once one more of which it holds is put in
pub all-insert : {X : Type 0} (P : X → Type 0) (xs : List X) (i : ℕ) (x : X) → AllByRecursion P xs → P x
    → AllByRecursion P (insert xs i x)
all-insert P xs zero x h p = (p, h)
all-insert P [] (suc i) x h p = (p, tt)
all-insert P (y ∷ ys) (suc i) x h p = (h.0, all-insert P ys i x h.1 p)

-- what is put in is there
pub in-inserted : {X : Type 0} (x : X) (xs : List X) (i : ℕ) → In x (insert xs i x)
in-inserted x xs zero = inl refl
in-inserted x [] (suc i) = inl refl
in-inserted x (y ∷ ys) (suc i) = inr (in-inserted x ys i)

-- and so is what was there
pub in-insert : {X : Type 0} (u x : X) (xs : List X) (i : ℕ) → In u xs → In u (insert xs i x)
in-insert u x xs zero h = inr h
in-insert u x [] (suc i) h = absurd h
in-insert u x (y ∷ ys) (suc i) (inl e) = inl e
in-insert u x (y ∷ ys) (suc i) (inr h) = inr (in-insert u x ys i h)

-- what is written behind so many items is put in at their end
pub take-set : {X : Type 0} (xs : List X) (n : ℕ) (x : X) → n < length xs
    → take (n + 1) (set xs n x) ≡ insert (take n xs) n x
take-set [] n x h = absurd (omega (arith, h))
take-set (y ∷ ys) zero x h = refl
take-set (y ∷ ys) (suc n) x h =
    let more : suc n + 1 ≡ suc (n + 1) = omega arith in
    rw more (ap (λ l. y ∷ l) (take-set ys n x (omega (arith, h))))

set-insert : {X : Type 0} (xs : List X) (i : ℕ) (d x : X) → i < length xs
    → set (insert xs (suc i) (get_or xs i d)) i x ≡ insert xs i x
set-insert [] i d x h = absurd (omega (arith, h))
set-insert (y ∷ ys) zero d x h = refl
set-insert (y ∷ ys) (suc i) d x h = ap (λ l. y ∷ l) (set-insert ys i d x (omega (arith, h)))

-- Among the first n + 1 items there is a gap among those of ys: it goes one place down where the item there goes up.
pub gap-down : {X : Type 0} (xs ys : List X) (n end : ℕ) (d : X) → 0 < end → end ≤ n → end ≤ length ys
    → ((x : X) → take (n + 1) (set xs end x) ≡ insert ys end x)
    → (x : X) → take (n + 1) (set (set xs end (get_or xs (end - 1) d)) (end - 1) x) ≡ insert ys (end - 1) x
gap-down xs ys n zero d some within long gap x = absurd (omega (arith, some))
gap-down xs ys n (suc i) d some within long gap x =
    let less : suc i - 1 ≡ i = omega arith in
    let same : get_or xs i d ≡ get_or ys i d =
    sym (get_or-set_other xs (suc i) i d d (λ e. absurd (omega (arith, e))))
    ∙ sym (get_or-take (n + 1) (set xs (suc i) d) i d (omega (arith, within)))
    ∙ ap (λ l. get_or l i d) (gap d)
    ∙ get_or-insert_below ys (suc i) d d i (omega arith) long in
    subst (λ j. take (n + 1) (set (set xs (suc i) (get_or xs j d)) j x) ≡ insert ys j x) (sym less)
    (take-set-lt (n + 1) (set xs (suc i) (get_or xs i d)) i x (omega (arith, within))
    ∙ ap (λ l. set l i x) (gap (get_or xs i d) ∙ ap (insert ys (suc i)) same)
    ∙ set-insert ys i d x (omega (arith, long)))

-- what holds of the items that pass a test, and of those that don't, holds of all
pub all-both : {X : Type 0} (p : X → Bool) (P : X → Type 0) (xs : List X) → AllByRecursion (λ x. p x ≡ true → P x) xs
    → AllByRecursion (λ x. p x ≡ false → P x) xs → AllByRecursion P xs
all-both p P [] h k = tt
all-both p P (x ∷ xs) h k = (
  elim (p x) as (λ b. p x ≡ b → P x) [ true ↦ h.0 | false ↦ k.0 ] refl,
  all-both p P xs h.1 k.1,
)

module _ {X : Type 0} (cmp : X → X → Ordering) (o : IsTotalOrder cmp) where
  module _ (x : X) where
    less_than : (y : X) → cmp y x ≡ Greater → cmp x y ≡ Less
    less_than y g = o.antisymm x y ∙ ap ordering_reverse g

    -- what is put in between the lesser items and the greater ones
    pub ascends-insert : (xs : List X) (i : ℕ) → IsStrictlySortedBy cmp xs
        → ((k : ℕ) (d : X) → k < i → cmp (get_or xs k d) x ≡ Less)
        → AllByRecursion (λ y. cmp y x ≡ Greater) (drop i xs) → IsStrictlySortedBy cmp (insert xs i x)
    unfolding IsStrictlySortedBy
    ascends-insert xs zero up below above = (all-also _ _ less_than xs above, up)
    ascends-insert [] (suc i) up below above = (tt, tt)
    ascends-insert (y ∷ ys) (suc i) up below above = (
      all-insert (λ z. cmp y z ≡ Less) ys i x up.0 (below 0 y (omega arith)),
      ascends-insert ys i up.1 (λ k d h. below (suc k) d (omega (arith, h))) above,
    )

    -- the items up to a lesser one are lesser
    pub less_before : (xs : List X) (i : ℕ) → IsStrictlySortedBy cmp xs → 0 < i → i ≤ length xs
        → ((d : X) → cmp (get_or xs (i - 1) d) x ≡ Less) → (k : ℕ) (d : X) → k < i → cmp (get_or xs k d) x ≡ Less
    less_before xs i up some within last k d h =
        elim (nat_lt k (i - 1)) as (λ b. nat_lt k (i - 1) ≡ b → cmp (get_or xs k d) x ≡ Less) [
          | true ↦ λ e.
              o.trans _ _ _
              (Less-from_sorted cmp xs k (i - 1) d up (grind (arith, nat_tests)) (omega (arith, some, within)))
              (last d)
          | false ↦ λ e.
              let same : i - 1 ≡ k = grind (arith, nat_tests, h) in
              subst (λ m. cmp (get_or xs m d) x ≡ Less) same (last d)
        ] refl

    -- one greater item more
    pub greater_more : (xs : List X) (i : ℕ) (d : X) → 0 < i → i ≤ length xs → cmp (get_or xs (i - 1) d) x ≡ Greater
        → AllByRecursion (λ y. cmp y x ≡ Greater) (drop i xs)
        → AllByRecursion (λ y. cmp y x ≡ Greater) (drop (i - 1) xs)
    greater_more xs zero d some within g above = absurd (omega (arith, some))
    greater_more xs (suc i) d some within g above =
        let less : suc i - 1 ≡ i = omega arith in
        subst (λ j. AllByRecursion (λ y. cmp y x ≡ Greater) (drop j xs)) (sym less)
        (subst (AllByRecursion (λ y. cmp y x ≡ Greater)) (sym (drop-cons xs i d (omega (arith, within))))
        (subst (λ j. cmp (get_or xs j d) x ≡ Greater) less g, above))

  module _ (same : (x y : X) → cmp x y ≡ Equal → x ≡ y) where
    in-from : (xs : List X) (q : X) → is_member (eq_by_cmp cmp) xs q ≡ true → In q xs
    in-from [] q e = cc
    in-from (x ∷ xs) q e =
        elim (cmp q x) as (λ r. cmp q x ≡ r → (is_eq r || is_member (eq_by_cmp cmp) xs q) ≡ true → In q (x ∷ xs)) [
          | Less ↦ λ r m. inr (in-from xs q m)
          | Equal ↦ λ r m. inl (same q x r)
          | Greater ↦ λ r m. inr (in-from xs q m)
        ] refl e

    from-in : (xs : List X) (q : X) → In q xs → is_member (eq_by_cmp cmp) xs q ≡ true
    from-in [] q h = absurd h
    from-in (x ∷ xs) q (inl e) =
        let tie : cmp q x ≡ Equal = subst (λ z. cmp q z ≡ Equal) e (tied_itself o q) in
        subst (λ r. (is_eq r || is_member (eq_by_cmp cmp) xs q) ≡ true) (sym tie) refl
    from-in (x ∷ xs) q (inr h) =
        elim (is_eq (cmp q x)) as (λ b. (b || is_member (eq_by_cmp cmp) xs q) ≡ true)
        [ true ↦ refl | false ↦ from-in xs q h ]

    -- what ascends is no longer than a list that has each of its items
    pub length-ascending : (xs ys : List X) → IsStrictlySortedBy cmp xs → ((q : X) → In q xs → In q ys)
        → length xs ≤ length ys
    length-ascending xs ys up each =
        length-le_from_is_member (eq_by_cmp_equiv o) xs ys (IsDistinct-from_sorted cmp xs up)
        (λ q m. from-in ys q (each q (in-from xs q m)))
