-- What a pool has of a list that ascends: each rank once for so many of it.
use Rattle.std.proofs.Common.{◌≡◌, ℕ, zero, suc, ◌+◌, ◌-◌, ◌*◌, ◌<◌, ◌≤◌, List, [], ◌∷◌, ◌++◌, take, drop, length, Bool}
use Rattle.std.proofs.Common.{true, false, nat_eq, refl, ap, sym, ◌∙◌, subst, arith, eqb-true, eq-eqb, get_or, inl}
use Rattle.std.proofs.Common.{inr, mul-suc, suc-mul}
use Rattle.std.proofs.Common.{◌⊎◌}
use Rattle.std.specs.Prelude.{if◌then◌else◌}
use Rattle.std.specs.Ordering.{is_lt, nat_cmp}
use Rattle.std.specs.List.Sorted.{IsSorted}
use Rattle.std.proofs.lemmas.Cmp.{by_ranked, ranked}
use Rattle.std.proofs.Common.{length-drop, length-append}
use Rattle.mp_term.proofs.ListLaws.{drop-item}
use Rattle.mp_term.specs.Pieces.{same, is_sublist}
use Rattle.mp_term.proofs.PiecesLaws.{same-itself}
use Rattle.mp_table.specs.Table.{rank_cmp}
use Rattle.mp_table.specs.declared.rank.Rank.{Rank}
use Rattle.mp_search.specs.Portion.{is_at, occurrences}
use Rattle.mp_search.proofs.PartLaws.{drop-further}
use Rattle.mp_subst.proofs.RankLists.{rank_same, rank_cmp_total}

-- each rank is at most each one behind it
abbrev pub AreFrom : ℕ → List Rank → Type 0
AreFrom n [] = Unit {0}
AreFrom n (r ∷ rs) = (n ≤ r.0) × AreFrom n rs

abbrev pub Rise : List Rank → Type 0
Rise [] = Unit {0}
Rise (r ∷ rs) = AreFrom r.0 rs × Rise rs

from-less : (m n : ℕ) (rs : List Rank) → m ≤ n → AreFrom n rs → AreFrom m rs
from-less m n [] l h = tt
from-less m n (r ∷ rs) l h = (omega (arith, l, h.0), from-less m n rs l h.1)

not_less : (m n : ℕ) → is_lt (nat_cmp n m) ≡ false → m ≤ n
not_less m n e =
    by_ranked (n < m) (n ≡ m) (m < n) (nat_cmp n m) (ranked n m (nat_cmp n m) refl)
    (λ q p. absurd (let k : true ≡ false = sym (ap is_lt q) ∙ e in cc))
    (λ q p. omega (arith, p)) (λ q p. omega (arith, p))

pub rise-sorted : (rs : List Rank) → IsSorted rank_cmp rs → Rise rs
rise-sorted [] h = tt
rise-sorted (r ∷ []) h = (tt, tt)
rise-sorted (r ∷ s ∷ rs) h =
    let next : r.0 ≤ s.0 = not_less r.0 s.0 (h 0 r (omega arith) (omega arith)) in
    let behind : Rise (s ∷ rs) = rise-sorted (s ∷ rs) (λ k d a b.
    let e : suc k + 1 ≡ suc (k + 1) = omega arith in
    subst (λ n. is_lt (nat_cmp (get_or (r ∷ s ∷ rs) n d).0 (get_or (s ∷ rs) k d).0) ≡ false) e
    (h (suc k) d (omega arith) (omega (arith, b)))) in
    ((next, from-less r.0 s.0 rs next behind.0), behind)

pub rise-drop : (n : ℕ) (rs : List Rank) → Rise rs → Rise (drop n rs)
rise-drop zero rs h = h
rise-drop (suc n) [] h = tt
rise-drop (suc n) (r ∷ rs) h = rise-drop n rs h.1

from-get : (m n : ℕ) (rs : List Rank) (d : Rank) → AreFrom m rs → n < length rs → m ≤ (get_or rs n d).0
from-get m n [] d h l = absurd (omega (arith, l))
from-get m zero (r ∷ rs) d h l = h.0
from-get m (suc n) (r ∷ rs) d h l = from-get m n rs d h.1 (omega (arith, l))

-- none stands among greater ones
none-from : (z : Rank) (n : ℕ) (rs : List Rank) → z.0 < n → AreFrom n rs → occurrences z rs ≡ 0
none-from z n [] l h = refl
none-from z n (r ∷ rs) l h =
    let missed = other (nat_eq z.0 r.0) refl in omega (arith, missed, none-from z n rs l h.1)
  where
    other : (b : Bool) → nat_eq z.0 r.0 ≡ b → (if b then suc zero else zero) ≡ zero
    other true e = absurd (omega (arith, eqb-true z.0 r.0 e, l, h.0))
    other false e = refl

-- the first ranks are equal where the first is the last of them
pub run-whole : (n : ℕ) (rs : List Rank) (r d : Rank) → Rise (r ∷ rs) → n < length (r ∷ rs)
    → (get_or (r ∷ rs) n d).0 ≡ r.0 → (z : Rank)
    → occurrences z (r ∷ rs) ≡ (n + 1) * is_at z r + occurrences z (drop (n + 1) (r ∷ rs))
run-whole zero rs r d h l e z = ap (λ k. k + occurrences z rs) (once (is_at z r))
  where
    once : (k : ℕ) → k ≡ (0 + 1) * k
    once k = omega arith
run-whole (suc n) [] r d h l e z = absurd (omega (arith, l))
run-whole (suc n) (s ∷ rs) r d h l e z =
    let least : s.0 ≤ (get_or (s ∷ rs) n d).0 = at_most n (omega (arith, l)) in
    let same : s.0 ≡ r.0 = omega (arith, h.0.0, least, e) in
    let rest = run-whole n rs s d h.1 (omega (arith, l)) (e ∙ sym same) z in
    let hit : is_at z s ≡ is_at z r = ap (λ m. if nat_eq z.0 m then 1 else 0) same in
    let more : suc n + 1 ≡ suc (n + 1) = omega arith in
    ap (λ k. is_at z r + k) (rest ∙ ap (λ k. (n + 1) * k + occurrences z (drop (n + 1) (s ∷ rs))) hit)
    ∙ one_more (n + 1) (is_at z r) (occurrences z (drop (n + 1) (s ∷ rs)))
    ∙ ap (λ j. j * is_at z r + occurrences z (drop j (r ∷ s ∷ rs))) (sym more)
  where
    at_most : (n : ℕ) → n < length (s ∷ rs) → s.0 ≤ (get_or (s ∷ rs) n d).0
    at_most zero l = omega arith
    at_most (suc n) l = from-get s.0 n rs d h.1.0 (omega (arith, l))

    one_more : (n k t : ℕ) → k + (n * k + t) ≡ suc n * k + t
    one_more n k t = by_hit k
      where
        by_hit : (k : ℕ) → k + (n * k + t) ≡ suc n * k + t
        by_hit k = omega (arith, suc-mul n k)

-- and else there are fewer of it
pub run-short : (n : ℕ) (rs : List Rank) (r d : Rank) → Rise (r ∷ rs)
    → (length (r ∷ rs) ≤ n) ⊎ ((n < length (r ∷ rs)) × ((get_or (r ∷ rs) n d).0 ≡ r.0 → ⊥))
    → occurrences r (r ∷ rs) ≤ n
run-short n rs r d h (inl l) = omega (arith, all-length r (r ∷ rs), l)
  where
    all-length : (z : Rank) (rs : List Rank) → occurrences z rs ≤ length rs
    all-length z [] = omega arith
    all-length z (s ∷ rs) = elim (nat_eq z.0 s.0) as (λ b. (if b then 1 else 0) + occurrences z rs ≤ suc (length rs))
        [ true ↦ omega (arith, all-length z rs) | false ↦ omega (arith, all-length z rs) ]
run-short zero rs r d h (inr k) = absurd (k.1 refl)
run-short (suc n) [] r d h (inr k) = absurd (omega (arith, k.0))
run-short (suc n) (s ∷ rs) r d h (inr k) =
    elim (nat_eq r.0 s.0) as (λ b. nat_eq r.0 s.0 ≡ b → occurrences r (r ∷ s ∷ rs) ≤ suc n) [
      | true ↦ λ e.
          let same : r.0 ≡ s.0 = eqb-true r.0 s.0 e in
          let i : r ≡ s = ap (λ m. record { 0 = m }) same in
          let rest = run-short n rs s d h.1 (inr (omega (arith, k.0), λ q. k.1 (q ∙ sym same))) in
          omega (arith, first r, subst (λ z. occurrences z (s ∷ rs) ≤ n) (sym i) rest)
      | false ↦ λ e.
          let less : r.0 < s.0 = differ r.0 s.0 h.0.0 e in
          omega (arith, first r, none-from r s.0 (s ∷ rs) less (omega arith, h.1.0))
    ] refl
  where
    first : (z : Rank) → is_at z z ≡ 1
    first z = ap (λ b. if b then 1 else 0) (eq-eqb z.0 z.0 refl)

    differ : (m n : ℕ) → m ≤ n → nat_eq m n ≡ false → m < n
    differ m n l e =
        by_ranked (m < n) (m ≡ n) (n < m) (nat_cmp m n) (ranked m n (nat_cmp m n) refl) (λ q p. p)
        (λ q p. absurd (let k : true ≡ false = sym (eq-eqb m n p) ∙ e in cc)) (λ q p. absurd (omega (arith, p, l)))

-- sublists grow with their lists
pub sub-longer : (l ts us : List Rank) → is_sublist rank_cmp l ts ≡ true → is_sublist rank_cmp l (ts ++ us) ≡ true
sub-longer [] ts us h = refl
sub-longer (e ∷ l) [] us h = cc
sub-longer (e ∷ l) (t ∷ ts) us h =
    elim (same rank_cmp t e) as (λ b. (if b then is_sublist rank_cmp l ts else is_sublist rank_cmp (e ∷ l) ts) ≡ true
    → (if b then is_sublist rank_cmp l (ts ++ us) else is_sublist rank_cmp (e ∷ l) (ts ++ us)) ≡ true)
    [ true ↦ sub-longer l ts us | false ↦ sub-longer (e ∷ l) ts us ] h

pub sub-push : (l ts us : List Rank) (r : Rank) → is_sublist rank_cmp l ts ≡ true
    → is_sublist rank_cmp (l ++ r ∷ []) (ts ++ r ∷ us) ≡ true
sub-push [] [] us r h = ap (λ b. if b then true else is_sublist rank_cmp (r ∷ []) us)
    (same-itself rank_cmp rank_cmp_total rank_same r)
sub-push [] (t ∷ ts) us r h = elim (same rank_cmp t r) as
    (λ b. (if b then true else is_sublist rank_cmp (r ∷ []) (ts ++ r ∷ us)) ≡ true)
    [ true ↦ refl | false ↦ sub-push [] ts us r refl ]
sub-push (e ∷ l) [] us r h = cc
sub-push (e ∷ l) (t ∷ ts) us r h =
    elim (same rank_cmp t e) as (λ b. (if b then is_sublist rank_cmp l ts else is_sublist rank_cmp (e ∷ l) ts) ≡ true
    → (if b then is_sublist rank_cmp (l ++ r ∷ []) (ts ++ r ∷ us)
    else is_sublist rank_cmp (e ∷ (l ++ r ∷ [])) (ts ++ r ∷ us)) ≡ true)
    [ true ↦ sub-push l ts us r | false ↦ sub-push (e ∷ l) ts us r ] h

-- the first items and some more
pub take-more : {X : Type 0} (i n : ℕ) (xs : List X) → take (i + n) xs ≡ take i xs ++ take n (drop i xs)
take-more zero n xs = let e : 0 + n ≡ n = omega arith in ap (λ m. take m xs) e
take-more (suc i) n [] = none (suc i + n) ∙ sym (none n)
  where
    none : {X : Type 0} (m : ℕ) → take {A = X} m [] ≡ []
    none zero = refl
    none (suc m) = refl
take-more (suc i) n (x ∷ xs) =
    let e : suc i + n ≡ suc (i + n) = omega arith in
    ap (λ m. take m (x ∷ xs)) e ∙ ap (λ ys. x ∷ ys) (take-more i n xs)

occurrences-push : (z : Rank) (l : List Rank) (r : Rank) → occurrences z (l ++ r ∷ []) ≡ occurrences z l + is_at z r
occurrences-push z [] r = omega arith
occurrences-push z (s ∷ l) r = omega (arith, occurrences-push z l r)

-- what is found so far and what is left have enough of the rank
abbrev pub HasEnough : Rank → ℕ → List Rank → List Rank → List Rank → Type 0
HasEnough z u all l rest = (m : ℕ) → u * m ≤ occurrences z all
    → (k : ℕ) × (m ≤ occurrences z l + k) × (u * k ≤ occurrences z rest)

pub enough-push : (z : Rank) (u : ℕ) (all l rest after : List Rank) (r : Rank)
    → occurrences z rest ≡ u * is_at z r + occurrences z after → HasEnough z u all l rest
    → HasEnough z u all (l ++ r ∷ []) after
enough-push z u all l rest after r e h m n = fewer (h m n).0 (h m n).1 (h m n).2
  where
    fewer : (k : ℕ) → m ≤ occurrences z l + k → u * k ≤ occurrences z rest
        → (j : ℕ) × (m ≤ occurrences z (l ++ r ∷ []) + j) × (u * j ≤ occurrences z after)
    fewer zero a b = (0, omega (arith, a, occurrences-push z l r), omega arith)
    fewer (suc k) a b = elim (nat_eq z.0 r.0) as (λ c. nat_eq z.0 r.0 ≡ c
        → (j : ℕ) × (m ≤ occurrences z (l ++ r ∷ []) + j) × (u * j ≤ occurrences z after)) [
          | true ↦ λ q.
              let one : is_at z r ≡ 1 = ap (λ c. if c then 1 else 0) q in
              let whole : occurrences z rest ≡ u * 1 + occurrences z after =
              e ∙ ap (λ c. u * c + occurrences z after) one in
              (k, omega (arith, a, occurrences-push z l r, one), omega (arith, b, whole, mul-suc u k))
          | false ↦ λ q.
              let none : is_at z r ≡ 0 = ap (λ c. if c then 1 else 0) q in
              let whole : occurrences z rest ≡ u * 0 + occurrences z after =
              e ∙ ap (λ c. u * c + occurrences z after) none in
              (suc k, omega (arith, a, occurrences-push z l r, none), omega (arith, b, whole))
        ] refl

-- another rank is passed over
pub enough-pass : (z : Rank) (u : ℕ) (all l rest after : List Rank) (r : Rank) → (z ≡ r → ⊥)
    → occurrences z rest ≡ u * is_at z r + occurrences z after → HasEnough z u all l rest
    → HasEnough z u all l after
enough-pass z u all l rest after r other e h m n =
    let found = h m n in
    let none : is_at z r ≡ 0 = missed (nat_eq z.0 r.0) refl in
    let whole : occurrences z rest ≡ u * 0 + occurrences z after =
    e ∙ ap (λ c. u * c + occurrences z after) none in
    (found.0, found.1, omega (arith, found.2, whole))
  where
    missed : (c : Bool) → nat_eq z.0 r.0 ≡ c → is_at z r ≡ 0
    missed true q = absurd (other (ap (λ n. record { 0 = n }) (eqb-true z.0 r.0 q)))
    missed false q = ap (λ b. if b then 1 else 0) q

pub enough-skip : (z : Rank) (u : ℕ) (all l after : List Rank) (r : Rank) → occurrences r (r ∷ after) < u
    → HasEnough z u all l (r ∷ after) → HasEnough z u all l after
enough-skip z u all l after r few h m n = fewer (h m n).0 (h m n).1 (h m n).2
  where
    fewer : (k : ℕ) → m ≤ occurrences z l + k → u * k ≤ occurrences z (r ∷ after)
        → (j : ℕ) × (m ≤ occurrences z l + j) × (u * j ≤ occurrences z after)
    fewer zero a b = (0, a, omega arith)
    fewer (suc k) a b = elim (nat_eq z.0 r.0) as (λ c. nat_eq z.0 r.0 ≡ c
        → (j : ℕ) × (m ≤ occurrences z l + j) × (u * j ≤ occurrences z after)) [
          | true ↦ λ q.
              let i : z ≡ r = ap (λ n. record { 0 = n }) (eqb-true z.0 r.0 q) in
              let more : occurrences z (r ∷ after) < u =
              subst (λ y. occurrences y (r ∷ after) < u) (sym i) few in
              absurd (omega (arith, b, more, mul-suc u k))
          | false ↦ λ q.
              let none : is_at z r ≡ 0 = ap (λ c. if c then 1 else 0) q in
              (suc k, a, omega (arith, b, none))
        ] refl

get-drop : {X : Type 0} (i n : ℕ) (xs : List X) (d : X) → get_or (drop i xs) n d ≡ get_or xs (i + n) d
get-drop zero n xs d = let e : 0 + n ≡ n = omega arith in ap (λ m. get_or xs m d) (sym e)
get-drop {X = X} (suc i) n [] d = nothing n ∙ sym (nothing (suc i + n))
  where
    nothing : (m : ℕ) → get_or {A = X} [] m d ≡ d
    nothing zero = refl
    nothing (suc m) = refl
get-drop (suc i) n (x ∷ xs) d =
    let e : suc i + n ≡ suc (i + n) = omega arith in get-drop i n xs d ∙ ap (λ m. get_or (x ∷ xs) m d) (sym e)

module _ (list : List Rank) (place count : ℕ) (r d : Rank) (up : IsSorted rank_cmp list) (some : 1 ≤ count)
    (within : place < length list) (is : r ≡ get_or list place r) where
  from_place : drop place list ≡ r ∷ drop (place + 1) list
  from_place = drop-item list place r within is

  rising : Rise (r ∷ drop (place + 1) list)
  rising = subst Rise from_place (rise-drop place list (rise-sorted list up))

  last_is : get_or (r ∷ drop (place + 1) list) (count - 1) d ≡ get_or list (place + (count - 1)) d
  last_is = ap (λ xs. get_or xs (count - 1) d) (sym from_place) ∙ get-drop place (count - 1) list d

  long : length (r ∷ drop (place + 1) list) ≡ length list - place
  long = ap length (sym from_place) ∙ length-drop place list

  -- so many equal ranks from the place on
  pub portion-whole : place + count ≤ length list → (get_or list (place + (count - 1)) d).0 ≡ r.0 → (z : Rank)
      → occurrences z (drop place list) ≡ count * is_at z r + occurrences z (drop (place + count) list)
  portion-whole n e z =
      let one_more : count - 1 + 1 ≡ count = omega (arith, some) in
      ap (occurrences z) from_place
      ∙ run-whole (count - 1) (drop (place + 1) list) r d rising (omega (arith, long, n, some))
      (ap (λ o. o.0) last_is ∙ e) z
      ∙ ap (λ m. m * is_at z r + occurrences z (drop m (r ∷ drop (place + 1) list))) one_more
      ∙ ap (λ xs. count * is_at z r + occurrences z xs)
      (ap (drop count) (sym from_place) ∙ drop-further count place list)

  -- or fewer
  pub portion-short : (length list < place + count) ⊎ ((place + count ≤ length list)
      × ((get_or list (place + (count - 1)) d).0 ≡ r.0 → ⊥)) → occurrences r (drop place list) < count
  portion-short (inl n) =
      let few = run-short (count - 1) (drop (place + 1) list) r d rising (inl (omega (arith, long, n, some, within))) in
      omega (arith, few, ap (occurrences r) from_place, some)
  portion-short (inr k) =
      let few = run-short (count - 1) (drop (place + 1) list) r d rising
      (inr (omega (arith, long, k.0, some), λ e. k.1 (sym (ap (λ o. o.0) last_is) ∙ e))) in
      omega (arith, few, ap (occurrences r) from_place, some)

  -- the rank is behind what was found before the place
  pub portion-part : (l : List Rank) → is_sublist rank_cmp l (take place list) ≡ true
      → is_sublist rank_cmp (l ++ r ∷ []) (take (place + count) list) ≡ true
  portion-part l h =
      subst (λ xs. is_sublist rank_cmp (l ++ r ∷ []) xs ≡ true)
      (ap (λ ys. take place list ++ ys) (sym (ap (take count) from_place ∙ front count some))
      ∙ sym (take-more place count list))
      (sub-push l (take place list) (take (count - 1) (drop (place + 1) list)) r h)
    where
      front : (n : ℕ) → 1 ≤ n → take n (r ∷ drop (place + 1) list) ≡ r ∷ take (n - 1) (drop (place + 1) list)
      front zero l = absurd (omega (arith, l))
      front (suc n) l = let e : suc n - 1 ≡ n = omega arith in ap (λ m. r ∷ take m (drop (place + 1) list)) (sym e)

  -- and also where it isn't kept
  pub pass-part : (l : List Rank) → is_sublist rank_cmp l (take place list) ≡ true
      → is_sublist rank_cmp l (take (place + count) list) ≡ true
  pass-part l h =
      subst (λ xs. is_sublist rank_cmp l xs ≡ true) (sym (take-more place count list))
      (sub-longer l (take place list) (take count (drop place list)) h)

  -- so it is whether the rank is kept, or is none that is wanted
  pub record IsPassed (Wanted : Rank → Type 0) (l : List Rank) : Type 0 where
    pub few : length l ≤ place + count
    pub part : is_sublist rank_cmp l (take (place + count) list) ≡ true
    pub enough : (z : Rank) → Wanted z → HasEnough z count list l (drop (place + count) list)

  pub portion-kept : (Wanted : Rank → Type 0) (l m : List Rank)
      → (m ≡ l ++ r ∷ []) ⊎ ((m ≡ l) × (Wanted r → ⊥))
      → ((z : Rank) → occurrences z (drop place list) ≡ count * is_at z r + occurrences z (drop (place + count) list))
      → length l ≤ place → is_sublist rank_cmp l (take place list) ≡ true
      → ((z : Rank) → Wanted z → HasEnough z count list l (drop place list)) → IsPassed Wanted m
  portion-kept Wanted l m (inl k) whole few part enough = subst (IsPassed Wanted) (sym k) (record {
    few = omega (arith, length-append l (r ∷ []), few, some);
    part = portion-part l part;
    enough = λ z w. enough-push z count list l (drop place list) (drop (place + count) list) r (whole z) (enough z w);
  })
  portion-kept Wanted l m (inr k) whole few part enough = subst (IsPassed Wanted) (sym k.0) (record {
    few = omega (arith, few, some);
    part = pass-part l part;
    enough = λ z w. enough-pass z count list l (drop place list) (drop (place + count) list) r
        (λ e. k.1 (subst Wanted e w)) (whole z) (enough z w);
  })

  pub skip-part : (l : List Rank) → is_sublist rank_cmp l (take place list) ≡ true
      → is_sublist rank_cmp l (take (place + 1) list) ≡ true
  skip-part l h =
      subst (λ xs. is_sublist rank_cmp l xs ≡ true) (sym (take-more place 1 list))
      (sub-longer l (take place list) (take 1 (drop place list)) h)

  pub skip-enough : (z : Rank) (l : List Rank) → occurrences r (drop place list) < count
      → HasEnough z count list l (drop place list) → HasEnough z count list l (drop (place + 1) list)
  skip-enough z l few h = enough-skip z count list l (drop (place + 1) list) r
      (subst (λ xs. occurrences r xs < count) from_place few) (subst (HasEnough z count list l) from_place h)

-- a sublist of the first items is one of all
pub sub-front : (l xs : List Rank) (i : ℕ) → is_sublist rank_cmp l (take i xs) ≡ true → is_sublist rank_cmp l xs ≡ true
sub-front [] xs i h = refl
sub-front (e ∷ l) [] zero h = cc
sub-front (e ∷ l) [] (suc i) h = cc
sub-front (e ∷ l) (x ∷ xs) zero h = cc
sub-front (e ∷ l) (x ∷ xs) (suc i) h = by_test (same rank_cmp x e) h (sub-front l xs i) (sub-front (e ∷ l) xs i)
  where
    by_test : (b : Bool)
        → (if b then is_sublist rank_cmp l (take i xs) else is_sublist rank_cmp (e ∷ l) (take i xs)) ≡ true
        → (is_sublist rank_cmp l (take i xs) ≡ true → is_sublist rank_cmp l xs ≡ true)
        → (is_sublist rank_cmp (e ∷ l) (take i xs) ≡ true → is_sublist rank_cmp (e ∷ l) xs ≡ true)
        → (if b then is_sublist rank_cmp l xs else is_sublist rank_cmp (e ∷ l) xs) ≡ true
    by_test true h f g = f h
    by_test false h f g = g h

-- where none is left all is found
pub enough-end : (z : Rank) (u : ℕ) (all l : List Rank) (i : ℕ) → 1 ≤ u → occurrences z (drop i all) ≡ 0
    → HasEnough z u all l (drop i all) → (m : ℕ) → u * m ≤ occurrences z all → m ≤ occurrences z l
enough-end z u all l i some nothing h m n =
    let a = h m n in last a.0 a.1 (omega (arith, a.2, nothing))
  where
    last : (k : ℕ) → m ≤ occurrences z l + k → u * k ≤ 0 → m ≤ occurrences z l
    last zero a b = omega (arith, a)
    last (suc k) a b = absurd (omega (arith, b, mul-suc u k, some))

occurrences-front : (z : Rank) (n : ℕ) (rs : List Rank)
    → occurrences z (take n rs) + occurrences z (drop n rs) ≡ occurrences z rs
occurrences-front z zero rs = omega arith
occurrences-front z (suc n) [] = refl
occurrences-front z (suc n) (r ∷ rs) = omega (arith, occurrences-front z n rs)

-- a slice has all of a rank that stands neither before it nor behind it
pub slice-enough : (z : Rank) (u : ℕ) (all : List Rank) (i j : ℕ) → u ≡ 1 → i ≤ j
    → occurrences z (drop i all) ≡ occurrences z all → occurrences z (drop j all) ≡ 0
    → (m : ℕ) → u * m ≤ occurrences z all → m ≤ occurrences z (take (j - i) (drop i all))
slice-enough z u all i j one l front behind m n =
    let whole = occurrences-front z (j - i) (drop i all) in
    let there : i + (j - i) ≡ j = omega (arith, l) in
    let rest : occurrences z (drop (j - i) (drop i all)) ≡ 0 =
    ap (occurrences z) (drop-further (j - i) i all ∙ ap (λ k. drop k all) there) ∙ behind in
    let few : 1 * m ≤ occurrences z all = subst (λ k. k * m ≤ occurrences z all) one n in
    omega (arith, whole, front, rest, few)
