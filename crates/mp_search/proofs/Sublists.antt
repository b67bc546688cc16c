-- The sublists of an ascending list that have one length: which of them comes next.
use Rattle.std.proofs.Common.{◌≡◌, ℕ, zero, suc, ◌<◌, ◌≤◌, ◌+◌, List, [], ◌∷◌, ◌++◌, Bool, true, false, refl, sym}
use Rattle.std.proofs.Common.{ap, ◌∙◌}
use Rattle.std.proofs.Common.{subst, length, filter, take, drop, get_or, arith, inl, inr, ◌⊎◌, ◌-◌, length-append}
use Rattle.std.proofs.Common.{drop-cons, length-drop}
use Rattle.std.specs.Prelude.{if◌then◌else◌, ⊤}
use Rattle.std.specs.declared.cmp.Ordering.{Ordering}
use Rattle.std.specs.declared.cmp.Ordering.TheVariants.{Less, Equal, Greater}
use Rattle.std.specs.Ordering.{is_lt, ordering_reverse, ordering_then}
use Rattle.std.specs.Cmp.{IsTotalOrder}
use Rattle.std.specs.Cmp.Lexicographic.{slice_cmp}
use Rattle.std.specs.List.{AllByRecursion}
use Rattle.std.proofs.lemmas.Cmp.{tied_itself, lists_total}
use Rattle.std.proofs.lemmas.List.{length-take-le, take-append-drop}
use Rattle.mp_term.specs.Pieces.{same, is_sublist}
use Rattle.mp_term.proofs.ListingLaws.{irreflexive, one_way}
use Rattle.mp_term.proofs.PiecesLaws.{same-sound, same-itself, length-without, all-piece}
use Rattle.mp_search.specs.Sublists.{IsNextSublist, IsLastSublist, IsStuck, Rises}
use Rattle.mp_term.specs.Listing.{above}
use Rattle.mp_term.proofs.TestLaws.{less-from}

module _ {X : Type 0} (cmp : X → X → Ordering) (o : IsTotalOrder cmp)
    (means : (x y : X) → cmp x y ≡ Equal → x ≡ y) where
  -- the list ascends: nothing is less than what stands before it
  abbrev pub Ascends : List X → Type 0
  Ascends [] = ⊤
  Ascends (x ∷ xs) = AllByRecursion (λ y. is_lt (cmp y x) ≡ false) xs × Ascends xs

  -- l is a sublist of ts
  abbrev Sub : List X → List X → Type 0
  Sub l ts = is_sublist cmp l ts ≡ true

  -- a sublist without its first item, and of a longer list
  sub-tail : (e : X) (l ts : List X) → Sub (e ∷ l) ts → Sub l ts
  sub-tail e l [] h = cc
  sub-tail e l (t ∷ ts) h =
      elim (same cmp t e) as (λ b. (if b then is_sublist cmp l ts else is_sublist cmp (e ∷ l) ts) ≡ true
      → Sub l (t ∷ ts)) [
        | true ↦ λ k. behind (λ u m i. sub-tail u m ts i) l k
        | false ↦ λ k. behind (λ u m i. sub-tail u m ts i) l (sub-tail e l ts k)
      ] h
    where
      behind : ((u : X) (m : List X) → Sub (u ∷ m) ts → Sub m ts) → (m : List X) → Sub m ts → Sub m (t ∷ ts)
      behind f [] k = refl
      behind f (u ∷ m) k = elim (same cmp t u) as
          (λ b. (if b then is_sublist cmp m ts else is_sublist cmp (u ∷ m) ts) ≡ true)
          [ true ↦ f u m k | false ↦ k ]

  sub-behind : (t : X) (l ts : List X) → Sub l ts → Sub l (t ∷ ts)
  sub-behind t [] ts h = refl
  sub-behind t (u ∷ l) ts h = elim (same cmp t u) as
      (λ b. (if b then is_sublist cmp l ts else is_sublist cmp (u ∷ l) ts) ≡ true)
      [ true ↦ sub-tail u l ts h | false ↦ h ]

  -- of the items that pass a test, and back
  sub-filter : (p : X → Bool) (l ts : List X) → AllByRecursion (λ x. p x ≡ true) l → Sub l ts → Sub l (filter p ts)
  sub-filter p [] ts a h = refl
  sub-filter p (e ∷ l) [] a h = cc
  sub-filter p (e ∷ l) (t ∷ ts) a h =
      elim (same cmp t e) as (λ b. same cmp t e ≡ b
      → (if b then is_sublist cmp l ts else is_sublist cmp (e ∷ l) ts) ≡ true → Sub (e ∷ l) (filter p (t ∷ ts))) [
        | true ↦ λ q k.
            let passes : p t ≡ true = ap p (same-sound cmp o means t e q) ∙ a.0 in
            rw (passes, q) (sub-filter p l ts a.1 k)
        | false ↦ λ q k. kept q (sub-filter p (e ∷ l) ts a k)
      ] refl h
    where
      kept : same cmp t e ≡ false → Sub (e ∷ l) (filter p ts) → Sub (e ∷ l) (filter p (t ∷ ts))
      kept q k = elim (p t) as (λ b. Sub (e ∷ l) (if b then t ∷ filter p ts else filter p ts))
          [ true ↦ rw q k | false ↦ k ]

  from_sub-filter : (p : X → Bool) (l ts : List X) → Sub l (filter p ts) → Sub l ts
  from_sub-filter p [] ts h = refl
  from_sub-filter p (e ∷ l) [] h = cc
  from_sub-filter p (e ∷ l) (t ∷ ts) h =
      elim (p t) as (λ b. Sub (e ∷ l) (if b then t ∷ filter p ts else filter p ts) → Sub (e ∷ l) (t ∷ ts)) [
        | true ↦ λ k. elim (same cmp t e) as
            (λ b. (if b then is_sublist cmp l (filter p ts) else is_sublist cmp (e ∷ l) (filter p ts)) ≡ true
            → (if b then is_sublist cmp l ts else is_sublist cmp (e ∷ l) ts) ≡ true)
            [ true ↦ λ i. from_sub-filter p l ts i | false ↦ λ i. from_sub-filter p (e ∷ l) ts i ] k
        | false ↦ λ k. sub-behind t (e ∷ l) ts (from_sub-filter p (e ∷ l) ts k)
      ] h

  pub sub-take : (n : ℕ) (ts : List X) → Sub (take n ts) ts
  sub-take zero ts = refl
  sub-take (suc n) [] = refl
  sub-take (suc n) (t ∷ ts) = rw (same-itself cmp o means t) (sub-take n ts)

  pub sub-slice : (i n : ℕ) (ts : List X) → Sub (take n (drop i ts)) ts
  sub-slice zero n ts = sub-take n ts
  sub-slice (suc i) zero [] = refl
  sub-slice (suc i) (suc n) [] = refl
  sub-slice (suc i) n (t ∷ ts) = sub-behind t (take n (drop i ts)) ts (sub-slice i n ts)

  -- a sublist of an ascending list ascends
  ascends-sub : (l ts : List X) → Ascends ts → Sub l ts → Ascends l
  ascends-sub [] ts a h = tt
  ascends-sub (e ∷ l) [] a h = cc
  ascends-sub (e ∷ l) (t ∷ ts) a h =
      elim (same cmp t e) as (λ b. same cmp t e ≡ b
      → (if b then is_sublist cmp l ts else is_sublist cmp (e ∷ l) ts) ≡ true → Ascends (e ∷ l)) [
        | true ↦ λ q k. (
          all-piece cmp o means (λ y. is_lt (cmp y e) ≡ false) l ts k
              (subst (λ z. AllByRecursion (λ y. is_lt (cmp y z) ≡ false) ts) (same-sound cmp o means t e q) a.0),
          ascends-sub l ts a.1 k,
        )
        | false ↦ λ q k. ascends-sub (e ∷ l) ts a.1 k
      ] refl h

  -- only so many items of the pool are above x
  sub-above : (x : X) (m pool : List X) → AllByRecursion (λ y. is_lt (cmp x y) ≡ true) m → Sub m pool
      → Sub m (above cmp x pool)
  sub-above x m pool a h = sub-filter (λ y. is_lt (cmp x y)) m pool a h

  length-sub : (m ts : List X) → Sub m ts → length m ≤ length ts
  length-sub m ts h = omega (arith, length-without cmp o means m ts h)

  -- the first items are the least sublist of their number
  pub least : (m u : List X) → Ascends u → Sub m u → slice_cmp cmp m (take (length m) u) ≡ Less → ⊥
  least [] u a h l = cc
  least (e ∷ m) [] a h l = cc
  least (e ∷ m) (t ∷ ts) a h l =
      elim (same cmp t e) as (λ b. same cmp t e ≡ b
      → (if b then is_sublist cmp m ts else is_sublist cmp (e ∷ m) ts) ≡ true → ⊥) [
        | true ↦ λ q k.
            let one : cmp e t ≡ Equal = ap (cmp e) (same-sound cmp o means t e q) ∙ tied_itself o e in
            least m ts a.1 k (rw one at l)
        | false ↦ λ q k. elim (cmp e t) as (λ r. cmp e t ≡ r → ⊥) [
          | Less ↦ λ i.
              let n : is_lt (cmp e t) ≡ false =
              (all-piece cmp o means (λ y. is_lt (cmp y t) ≡ false) (e ∷ m) ts k a.0).0 in
              let wrong : true ≡ false = sym (ap is_lt i) ∙ n in cc
          | Equal ↦ λ i.
              let wrong : true ≡ false = sym (same-itself cmp o means t) ∙ ap (same cmp t) (sym (means e t i)) ∙ q in cc
          | Greater ↦ λ i. let wrong : Greater ≡ Less = rw i at l in cc
        ] refl
      ] refl h

  -- where the first items differ, or are one
  less_cases : (x y : X) (xs ys : List X) → slice_cmp cmp (x ∷ xs) (y ∷ ys) ≡ Less
      → (cmp x y ≡ Less) ⊎ ((x ≡ y) × (slice_cmp cmp xs ys ≡ Less))
  less_cases x y xs ys h =
      elim (cmp x y) as (λ r. cmp x y ≡ r → ordering_then r (slice_cmp cmp xs ys) ≡ Less
      → (cmp x y ≡ Less) ⊎ ((x ≡ y) × (slice_cmp cmp xs ys ≡ Less))) [
        | Less ↦ λ e k. inl e
        | Equal ↦ λ e k. inr (means x y e, k)
        | Greater ↦ λ e k. cc
      ] refl h

  -- what isn't less than something above x is above x
  all-above : (x y : X) (m : List X) → cmp x y ≡ Less → AllByRecursion (λ z. is_lt (cmp z y) ≡ false) m
      → AllByRecursion (λ z. is_lt (cmp x z) ≡ true) m
  all-above x y [] l h = tt
  all-above x y (z ∷ m) l h = (
    elim (cmp y z) as (λ r. cmp y z ≡ r → is_lt (cmp x z) ≡ true) [
      | Less ↦ λ e. ap is_lt (o.trans x y z l e)
      | Equal ↦ λ e. ap (λ w. is_lt (cmp x w)) (sym (means y z e)) ∙ ap is_lt l
      | Greater ↦ λ e.
          let wrong : true ≡ false = sym (ap is_lt (o.antisymm z y ∙ ap ordering_reverse e)) ∙ h.0 in cc
    ] refl,
    all-above x y m l h.1,
  )

  -- nothing comes after a list of which no item can rise
  stuck-last : (pool t m : List X) → IsStuck cmp pool t → Ascends m → length m ≡ length t → Sub m pool
      → slice_cmp cmp t m ≡ Less → ⊥
  stuck-last pool [] [] s a e h l = cc
  stuck-last pool [] (y ∷ m) s a e h l = absurd (omega (arith, e))
  stuck-last pool (x ∷ t) [] s a e h l = absurd (omega (arith, e))
  stuck-last pool (x ∷ t) (y ∷ m) s a e h l =
      elim (less_cases x y t m l) [
        | inl q ↦ absurd (omega (
          arith,
          e,
          s.0,
          length-sub (y ∷ m) (above cmp x pool) (sub-above x (y ∷ m) pool (ap is_lt q, all-above x y m q a.0) h),
        ))
        | inr q ↦ stuck-last pool t m s.1 a.1 (omega (arith, e)) (sub-tail y m pool h) q.1
      ]

  -- where x can rise, and nothing behind it can, the next list has the items above x from there on
  module _ (pool : List X) (up : Ascends pool) (x : X) (s : List X) (stuck : IsStuck cmp pool s)
      (enough : length s < length (above cmp x pool)) where
    abbrev raised : List X
    raised = take (length (x ∷ s)) (above cmp x pool)

    all-filter : (p : X → Bool) (xs : List X) → AllByRecursion (λ y. p y ≡ true) (filter p xs)
    all-filter p [] = tt
    all-filter p (y ∷ ys) = elim (p y) as
        (λ b. p y ≡ b → AllByRecursion (λ y. p y ≡ true) (if b then y ∷ filter p ys else filter p ys)) [
          | true ↦ λ e. (e, all-filter p ys)
          | false ↦ λ e. all-filter p ys
        ] refl

    raised-after : slice_cmp cmp (x ∷ s) raised ≡ Less
    raised-after = at (above cmp x pool) enough (all-filter (λ y. is_lt (cmp x y)) pool)
      where
        at : (u : List X) → length s < length u → AllByRecursion (λ y. is_lt (cmp x y) ≡ true) u
            → slice_cmp cmp (x ∷ s) (take (length (x ∷ s)) u) ≡ Less
        at [] h a = absurd (omega (arith, h))
        at (y ∷ u) h a = rw (less-from (cmp x y) a.0) refl

    after : (p : List X) → slice_cmp cmp (p ++ x ∷ s) (p ++ raised) ≡ Less
    after [] = raised-after
    after (z ∷ p) = rw (tied_itself o z) (after p)

    length-raised : (p : List X) → length (p ++ raised) ≡ length (p ++ x ∷ s)
    length-raised p = length-append p raised
        ∙ ap (λ n. length p + n) (length-take-le (length (x ∷ s)) (above cmp x pool) (omega (arith, enough)))
        ∙ sym (length-append p (x ∷ s))

    none-first : (m : List X) → Sub m pool → length m ≡ length (x ∷ s) → slice_cmp cmp (x ∷ s) m ≡ Less
        → slice_cmp cmp m raised ≡ Less → ⊥
    none-first [] h e l k = absurd (omega (arith, e))
    none-first (y ∷ m) h e l k =
        let a : Ascends (y ∷ m) = ascends-sub (y ∷ m) pool up h in
        elim (less_cases x y s m l) [
          | inl q ↦
              let higher : Sub (y ∷ m) (above cmp x pool) =
              sub-above x (y ∷ m) pool (ap is_lt q, all-above x y m q a.0) h in
              least (y ∷ m) (above cmp x pool)
              (ascends-sub (above cmp x pool) pool up
              (from_sub-filter (λ z. is_lt (cmp x z)) (above cmp x pool) pool (whole (above cmp x pool)))) higher
              (ap (λ n. slice_cmp cmp (y ∷ m) (take n (above cmp x pool))) e ∙ k)
          | inr q ↦ stuck-last pool s m stuck a.1 (omega (arith, e)) (sub-tail y m pool h) q.1
        ]
      where
        whole : (ts : List X) → Sub ts ts
        whole [] = refl
        whole (t ∷ ts) = rw (same-itself cmp o means t) (whole ts)

    none_between : (p m : List X) → Sub m pool → length m ≡ length (p ++ x ∷ s) → slice_cmp cmp (p ++ x ∷ s) m ≡ Less
        → slice_cmp cmp m (p ++ raised) ≡ Less → ⊥
    none_between [] m h e l k = none-first m h e l k
    none_between (z ∷ p) [] h e l k = absurd (omega (arith, e))
    none_between (z ∷ p) (y ∷ m) h e l k =
        elim (less_cases z y (p ++ x ∷ s) m l) [
          | inl q ↦ elim (less_cases y z m (p ++ raised) k) [
            | inl r ↦ one_way cmp o z y q r
            | inr r ↦ irreflexive cmp o z (subst (λ w. cmp z w ≡ Less) r.0 q)
          ]
          | inr q ↦ elim (less_cases y z m (p ++ raised) k) [
            | inl r ↦ irreflexive cmp o z (subst (λ w. cmp w z ≡ Less) (sym q.0) r)
            | inr r ↦ none_between p m (sub-tail y m pool h) (omega (arith, e)) q.1 r.1
          ]
        ]

  -- it is a sublist
  raised-sub : (x : X) (s : List X) (n : ℕ) (p pool : List X) → Ascends pool → Sub (p ++ x ∷ s) pool
      → Sub (p ++ take n (above cmp x pool)) pool
  raised-sub x s n [] pool a h =
      from_sub-filter (λ y. is_lt (cmp x y)) (take n (above cmp x pool)) pool (sub-take n (above cmp x pool))
  raised-sub x s n (z ∷ p) [] a h = cc
  raised-sub x s n (z ∷ p) (t ∷ ts) a h =
      elim (same cmp t z) as (λ b. same cmp t z ≡ b
      → (if b then is_sublist cmp (p ++ x ∷ s) ts else is_sublist cmp (z ∷ p ++ x ∷ s) ts) ≡ true
      → Sub (z ∷ p ++ take n (above cmp x (t ∷ ts))) (t ∷ ts)) [
        | true ↦ λ q k. subst (λ u. Sub (z ∷ p ++ take n u) (t ∷ ts)) (sym (lower p k))
            (rw q (raised-sub x s n p ts a.1 k))
        | false ↦ λ q k. subst (λ u. Sub (z ∷ p ++ take n u) (t ∷ ts)) (sym (lower (z ∷ p) k))
            (rw q (raised-sub x s n (z ∷ p) ts a.1 k))
      ] refl h
    where
      at : (q : List X) → AllByRecursion (λ y. is_lt (cmp y t) ≡ false) (q ++ x ∷ s) → is_lt (cmp x t) ≡ false
      at [] h = h.0
      at (y ∷ q) h = at q h.1

      lower : (q : List X) → Sub (q ++ x ∷ s) ts → above cmp x (t ∷ ts) ≡ above cmp x ts
      lower q k = rw (at q (all-piece cmp o means (λ y. is_lt (cmp y t) ≡ false) (q ++ x ∷ s) ts k a.0)) refl

  -- the next list, and the last
  pub next-raised : (pool p : List X) (x : X) (s : List X) → Ascends pool → Sub (p ++ x ∷ s) pool → IsStuck cmp pool s
      → length s < length (above cmp x pool)
      → IsNextSublist cmp pool (p ++ x ∷ s) (p ++ take (length (x ∷ s)) (above cmp x pool))
  next-raised pool p x s a h stuck enough = record {
    later = record {
      sublist = raised-sub x s (length (x ∷ s)) p pool a h;
      same_length = length-raised pool a x s stuck enough p;
      after = after pool a x s stuck enough p;
    };
    none_between = λ m i k. none_between pool a x s stuck enough p m i.sublist i.same_length i.after k;
  }

  pub last-stuck : (pool t : List X) → Ascends pool → IsStuck cmp pool t → IsLastSublist cmp pool t
  last-stuck pool t a s m i = stuck-last pool t m s (ascends-sub m pool a i.sublist) i.same_length i.sublist i.after

  -- a sublist that is as long as the list is the list
  whole-sub : (l ts : List X) → Sub l ts → length ts ≤ length l → l ≡ ts
  whole-sub [] [] h e = refl
  whole-sub [] (t ∷ ts) h e = absurd (omega (arith, e))
  whole-sub (x ∷ l) [] h e = cc
  whole-sub (x ∷ l) (t ∷ ts) h e =
      elim (same cmp t x) as (λ b. same cmp t x ≡ b
      → (if b then is_sublist cmp l ts else is_sublist cmp (x ∷ l) ts) ≡ true → x ∷ l ≡ t ∷ ts) [
        | true ↦ λ q k. ap (λ y. y ∷ l) (sym (same-sound cmp o means t x q))
            ∙ ap (λ ys. t ∷ ys) (whole-sub l ts k (omega (arith, e)))
        | false ↦ λ q k. absurd (omega (arith, e, length-sub (x ∷ l) ts k))
      ] refl h

  -- and no other comes after it
  pub last-whole : (pool l : List X) → Sub l pool → length pool ≤ length l → IsLastSublist cmp pool l
  last-whole pool l h e m i =
      let whole : l ≡ pool = whole-sub l pool h e in
      let other : m ≡ pool = whole-sub m pool i.sublist (omega (arith, e, i.same_length)) in
      let less : slice_cmp cmp pool pool ≡ Less =
      ap (λ n. slice_cmp cmp n pool) (sym whole) ∙ ap (slice_cmp cmp l) (sym other) ∙ i.after in
      let wrong : Less ≡ Equal = sym less ∙ tied_itself (lists_total o) pool in cc

  -- the next list, by places
  pub next-rises : (pool l : List X) (i j : ℕ) → Ascends pool → Sub l pool → Rises cmp pool l i j
      → IsNextSublist cmp pool l (take i l ++ take (length l - i) (drop j pool))
  next-rises pool [] i j a h r = absurd (omega (arith, r.within))
  next-rises pool (y ∷ ys) i j a h r =
      let l : List X = y ∷ ys in
      let x : X = get_or l i y in
      let s : List X = drop (suc i) l in
      let whole : take i l ++ x ∷ s ≡ l =
      ap (λ us. take i l ++ us) (sym (drop-cons l i y r.within)) ∙ take-append-drop i l in
      let size : length (x ∷ s) ≡ length l - i = ap length (sym (drop-cons l i y r.within)) ∙ length-drop i l in
      let one_more : i + 1 ≡ suc i = omega arith in
      let stuck : IsStuck cmp pool s = subst (λ n. IsStuck cmp pool (drop n l)) one_more r.stuck in
      let more : length s < length (above cmp x pool) =
      omega (arith, size, r.enough, r.within, ap length (r.items y)) in
      subst (λ m. IsNextSublist cmp pool m (take i l ++ take (length l - i) (drop j pool))) whole
      (subst (λ us. IsNextSublist cmp pool (take i l ++ x ∷ s) (take i l ++ take (length l - i) us)) (sym (r.items y))
      (subst (λ n. IsNextSublist cmp pool (take i l ++ x ∷ s) (take i l ++ take n (above cmp x pool))) size
      (next-raised pool (take i l) x s a (subst (λ m. Sub m pool) (sym whole) h) stuck more)))

  -- one more item that can't rise
  pub stuck-more : (pool l : List X) (i : ℕ) (d : X) → i < length l
      → length (above cmp (get_or l i d) pool) < length l - i → IsStuck cmp pool (drop (i + 1) l)
      → IsStuck cmp pool (drop i l)
  stuck-more pool l i d h few s =
      let one_more : i + 1 ≡ suc i = omega arith in
      rw (drop-cons l i d h) (
        omega (arith, few, length-drop (suc i) l),
        subst (λ n. IsStuck cmp pool (drop n l)) one_more s,
      )

  -- a list that is sorted ascends
  behind_all : (x : X) (xs : List X) → ((k : ℕ) → k < length xs → is_lt (cmp (get_or xs k x) x) ≡ false)
      → AllByRecursion (λ y. is_lt (cmp y x) ≡ false) xs
  behind_all x [] h = tt
  behind_all x (y ∷ ys) h = (h 0 (omega arith), behind_all x ys (λ k p. h (suc k) (omega arith)))

  pub ascends-from_far : (xs : List X)
      → ((i j : ℕ) (d : X) → i ≤ j → j < length xs → is_lt (cmp (get_or xs j d) (get_or xs i d)) ≡ false) → Ascends xs
  ascends-from_far [] h = tt
  ascends-from_far (x ∷ xs) h = (
    behind_all x xs (λ k p. h 0 (suc k) x (omega arith) (omega arith)),
    ascends-from_far xs (λ i j d p q. h (suc i) (suc j) d (omega arith) (omega arith)),
  )
