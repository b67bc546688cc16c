-- The pieces are exactly the sublists (or the prefixes), strictly ascending by shortlex.
use Rattle.std.proofs.Common.{◌≡◌, ℕ, zero, suc, ◌≤◌, ◌<◌, ◌+◌, List, [], ◌∷◌, Bool, true, false, refl, ap, sym, ◌∙◌}
use Rattle.std.proofs.Common.{◌⊎◌, inl, inr, subst, length, arith}
use Rattle.std.specs.declared.cmp.Ordering.{Ordering}
use Rattle.std.specs.Prelude.{if◌then◌else◌, ◌↔◌}
use Rattle.std.specs.declared.cmp.Ordering.TheVariants.{Less, Equal, Greater}
use Rattle.std.specs.Ordering.{is_eq, ordering_reverse, nat_cmp}
use Rattle.std.specs.Cmp.{IsTotalOrder, nat_cmp_is}
use Rattle.std.specs.Cmp.Lexicographic.{slice_cmp}
use Rattle.std.specs.List.{AllByRecursion, range_with_len}
use Rattle.std.specs.List.Sorted.{IsStrictlySortedBy}
use Rattle.std.proofs.lemmas.Cmp.{tied_itself, nat_cmp_total, by_ranked, ranked}
use Rattle.std.proofs.lemmas.Bool.{and_parts, and_from}
use Rattle.mp_term.specs.Order.{shortlex}
use Rattle.mp_term.proofs.ListingLaws.{less_than_all}
use Rattle.mp_term.specs.Search.{In, Accepts}
use Rattle.mp_term.specs.Pieces.{same, without, is_sublist, is_prefix, insert_new, distinct, after, first, pieces_of}
use Rattle.mp_term.specs.Pieces.{count_to, pieces_among, pieces, is_piece}
use Rattle.mp_term.proofs.SearchLaws.{in-flat, from_in-flat, words-complete, words-sound, words-ascending}
use Rattle.mp_term.proofs.SearchLaws.{ascending-flat}

-- a number from k on is k or above it
from_on : (n k : ℕ) → k ≤ n → (n ≡ k) ⊎ (suc k ≤ n)
from_on n k p = by_ranked _ _ _ (nat_cmp n k) (ranked n k _ refl) (λ _ h. absurd (omega arith)) (λ _ h. inl h)
    (λ _ h. inr (omega arith))

-- the numbers from k on, in order
pub in-count_to : (n k m : ℕ) → k ≤ n → n ≤ k + m → In n (count_to k m)
in-count_to n k zero p q = inl (omega arith)
in-count_to n k (suc m) p q = elim (from_on n k p)
    [ inl e ↦ inl e | inr h ↦ inr (in-count_to n (suc k) m h (omega arith)) ]

-- numbers in order compare so
pub nat_cmp-less : (m n : ℕ) → m < n → nat_cmp m n ≡ Less
nat_cmp-less m n h = sym (nat_cmp_is m n Less h)

above-count_to : (j k m : ℕ) → j < k → AllByRecursion (λ n. nat_cmp j n ≡ Less) (count_to k m)
above-count_to j k zero h = (nat_cmp-less j k h, tt)
above-count_to j k (suc m) h = (nat_cmp-less j k h, above-count_to j (suc k) m (omega arith))

pub ascending-count_to : (k m : ℕ) → IsStrictlySortedBy nat_cmp (count_to k m)
unfolding IsStrictlySortedBy
ascending-count_to k zero = (tt, tt)
ascending-count_to k (suc m) = (above-count_to k (suc k) m (omega arith), ascending-count_to (suc k) m)

-- the m numbers from k on, in order
pub in-range_with_len : (n k m : ℕ) → k ≤ n → n < k + m → In n (range_with_len k m)
in-range_with_len n k zero p q = absurd (omega arith)
in-range_with_len n k (suc m) p q = elim (from_on n k p)
    [ inl e ↦ inl e | inr h ↦ inr (in-range_with_len n (k + 1) m (omega arith) (omega arith)) ]

pub from_in-range_with_len : (n k m : ℕ) → In n (range_with_len k m) → (k ≤ n) × (n < k + m)
from_in-range_with_len n k zero h = absurd h
from_in-range_with_len n k (suc m) (inl e) = (omega (arith, e), omega (arith, e))
from_in-range_with_len n k (suc m) (inr h) = let i = from_in-range_with_len n (k + 1) m h in
    (omega (arith, i.0), omega (arith, i.1))

above-range_with_len : (j k m : ℕ) → j < k → AllByRecursion (λ n. nat_cmp j n ≡ Less) (range_with_len k m)
above-range_with_len j k zero h = tt
above-range_with_len j k (suc m) h = (nat_cmp-less j k h, above-range_with_len j (k + 1) m (omega arith))

pub ascending-range_with_len : (k m : ℕ) → IsStrictlySortedBy nat_cmp (range_with_len k m)
unfolding IsStrictlySortedBy
ascending-range_with_len k zero = tt
ascending-range_with_len k (suc m) =
    (above-range_with_len k (k + 1) m (omega arith), ascending-range_with_len (k + 1) m)

module _ {X : Type 0} (cmp : X → X → Ordering) (o : IsTotalOrder cmp)
    (means : (x y : X) → cmp x y ≡ Equal → x ≡ y) where
  -- the test of equality is sound and complete
  pub same-sound : (t u : X) → same cmp t u ≡ true → t ≡ u
  same-sound t u e = elim (cmp t u) as (λ r. cmp t u ≡ r → is_eq r ≡ true → t ≡ u)
      [ Less ↦ λ q i. cc | Equal ↦ λ q i. means t u q | Greater ↦ λ q i. cc ] refl e

  pub same-itself : (t : X) → same cmp t t ≡ true
  same-itself t = rw (tied_itself o t) refl

  -- the distinct items have the same members and ascend strictly
  in-insert_new : (t u : X) (us : List X) → (u ≡ t) ⊎ In u us → In u (insert_new cmp t us)
  in-insert_new t u [] h = h
  in-insert_new t u (v ∷ us) h =
      elim (cmp t v) as
      (λ r. cmp t v ≡ r → In u (elim r [ Less ↦ t ∷ v ∷ us | Equal ↦ v ∷ us | Greater ↦ v ∷ insert_new cmp t us ])) [
        | Less ↦ λ e. h
        | Equal ↦ λ e. elim h [ inl q ↦ inl (q ∙ means t v e) | inr i ↦ i ]
        | Greater ↦ λ e. elim h [
          | inl q ↦ inr (in-insert_new t u us (inl q))
          | inr i ↦ elim i [ inl q ↦ inl q | inr j ↦ inr (in-insert_new t u us (inr j)) ]
        ]
      ] refl

  from_in-insert_new : (t u : X) (us : List X) → In u (insert_new cmp t us) → (u ≡ t) ⊎ In u us
  from_in-insert_new t u [] h = h
  from_in-insert_new t u (v ∷ us) h =
      elim (cmp t v) as (λ r. In u (elim r [ Less ↦ t ∷ v ∷ us | Equal ↦ v ∷ us | Greater ↦ v ∷ insert_new cmp t us ])
      → (u ≡ t) ⊎ In u (v ∷ us)) [
        | Less ↦ λ h. h
        | Equal ↦ λ h. inr h
        | Greater ↦
            λ h. elim h [
              | inl q ↦ inr (inl q)
              | inr i ↦
                  elim (from_in-insert_new t u us i) [ inl q ↦ inl q | inr j ↦ inr (inr j) ]
            ]
      ] h

  pub in-distinct : (u : X) (ts : List X) → In u ts → In u (distinct cmp ts)
  in-distinct u [] h = h
  in-distinct u (t ∷ ts) (inl e) = in-insert_new t u (distinct cmp ts) (inl e)
  in-distinct u (t ∷ ts) (inr h) = in-insert_new t u (distinct cmp ts) (inr (in-distinct u ts h))

  pub from_in-distinct : (u : X) (ts : List X) → In u (distinct cmp ts) → In u ts
  from_in-distinct u [] h = h
  from_in-distinct u (t ∷ ts) h = elim (from_in-insert_new t u (distinct cmp ts) h)
      [ inl e ↦ inl e | inr i ↦ inr (from_in-distinct u ts i) ]

  all_less-insert_new : (x t : X) (us : List X) → cmp x t ≡ Less → AllByRecursion (λ y. cmp x y ≡ Less) us
      → AllByRecursion (λ y. cmp x y ≡ Less) (insert_new cmp t us)
  all_less-insert_new x t [] e h = (e, tt)
  all_less-insert_new x t (v ∷ us) e h =
      elim (cmp t v) as
      (λ r. AllByRecursion (λ y. cmp x y ≡ Less)
      (elim r [ Less ↦ t ∷ v ∷ us | Equal ↦ v ∷ us | Greater ↦ v ∷ insert_new cmp t us ])) [
        | Less ↦ (e, h)
        | Equal ↦ h
        | Greater ↦ (h.0, all_less-insert_new x t us e h.1)
      ]

  ascending-insert_new : (t : X) (us : List X) → IsStrictlySortedBy cmp us
      → IsStrictlySortedBy cmp (insert_new cmp t us)
  unfolding IsStrictlySortedBy
  ascending-insert_new t [] h = (tt, tt)
  ascending-insert_new t (v ∷ us) h =
      elim (cmp t v) as
      (λ r. cmp t v ≡ r
      → IsStrictlySortedBy cmp (elim r [ Less ↦ t ∷ v ∷ us | Equal ↦ v ∷ us | Greater ↦ v ∷ insert_new cmp t us ])) [
        | Less ↦ λ e. ((e, less_than_all cmp o t v us e h.0), h)
        | Equal ↦ λ e. h
        | Greater ↦
            λ e. (
              all_less-insert_new v t us (o.antisymm v t ∙ ap ordering_reverse e) h.0,
              ascending-insert_new t us h.1,
            )
      ] refl

  pub ascending-distinct : (ts : List X) → IsStrictlySortedBy cmp (distinct cmp ts)
  unfolding IsStrictlySortedBy
  ascending-distinct [] = tt
  ascending-distinct (t ∷ ts) = ascending-insert_new t (distinct cmp ts) (ascending-distinct ts)

  -- the items with which a piece may begin
  abbrev pub starts : Bool → List X → List X
  starts b ts = if b then distinct cmp ts else first cmp ts

  ascending-starts : (b : Bool) (ts : List X) → IsStrictlySortedBy cmp (starts b ts)
  unfolding IsStrictlySortedBy
  ascending-starts true ts = ascending-distinct ts
  ascending-starts false [] = tt
  ascending-starts false (t ∷ ts) = (tt, tt)

  -- a sublist begins with a member and goes on after it
  in_from_sublist : (e : X) (l ts : List X) → is_sublist cmp (e ∷ l) ts ≡ true
      → In e ts × (is_sublist cmp l (after cmp ts e) ≡ true)
  in_from_sublist e l [] h = cc
  in_from_sublist e l (t ∷ ts) h =
      elim (same cmp t e) as (λ b. same cmp t e ≡ b
      → (if b then is_sublist cmp l ts else is_sublist cmp (e ∷ l) ts) ≡ true
      → In e (t ∷ ts) × (is_sublist cmp l (if b then ts else after cmp ts e) ≡ true)) [
        | true ↦ λ q k. (inl (sym (same-sound t e q)), k)
        | false ↦ λ q k. let r = in_from_sublist e l ts k in (inr r.0, r.1)
      ] refl h

  sublist_from_in : (e : X) (l ts : List X) → In e ts → is_sublist cmp l (after cmp ts e) ≡ true
      → is_sublist cmp (e ∷ l) ts ≡ true
  sublist_from_in e l [] h k = absurd h
  sublist_from_in e l (t ∷ ts) h k =
      elim (same cmp t e) as (λ b. same cmp t e ≡ b → is_sublist cmp l (if b then ts else after cmp ts e) ≡ true
      → (if b then is_sublist cmp l ts else is_sublist cmp (e ∷ l) ts) ≡ true) [
        | true ↦ λ q k. k
        | false ↦ λ q k. sublist_from_in e l ts
            (elim h as (λ _. In e ts)
            [ inl i ↦ (let r : true ≡ false = sym (same-itself t) ∙ ap (same cmp t) (sym i) ∙ q in cc) | inr i ↦ i ]) k
      ] refl k

  -- the search accepts exactly the pieces
  pub accepts-piece : (b : Bool) (l ts : List X) → is_piece cmp b l ts ≡ true
      → Accepts (starts b) (after cmp) (λ _. true) ts l
  accepts-piece b [] ts h = refl
  accepts-piece true (e ∷ l) ts h = let r = in_from_sublist e l ts h in
      (in-distinct e ts r.0, accepts-piece true l (after cmp ts e) r.1)
  accepts-piece false (e ∷ l) [] h = cc
  accepts-piece false (e ∷ l) (t ∷ ts) h = let r = and_parts _ _ h in
      (inl (sym (same-sound t e r.0)), rw r.0 (accepts-piece false l ts r.1))

  pub piece-accepts : (b : Bool) (l ts : List X) → Accepts (starts b) (after cmp) (λ _. true) ts l
      → is_piece cmp b l ts ≡ true
  piece-accepts true [] ts h = refl
  piece-accepts false [] ts h = refl
  piece-accepts true (e ∷ l) ts h = sublist_from_in e l ts (from_in-distinct e ts h.0)
      (piece-accepts true l (after cmp ts e) h.1)
  piece-accepts false (e ∷ l) [] h = absurd h.0
  piece-accepts false (e ∷ l) (t ∷ ts) (inl q, h) =
      let same : same cmp t e ≡ true = ap (same cmp t) q ∙ same-itself t in
      and_from _ _ same (piece-accepts false l ts (rw same at h))
  piece-accepts false (e ∷ l) (t ∷ ts) (inr i, h) = absurd i

  -- a prefix is a sublist
  pub sublist-from_piece : (b : Bool) (l ts : List X) → is_piece cmp b l ts ≡ true → is_sublist cmp l ts ≡ true
  sublist-from_piece true l ts h = h
  sublist-from_piece false [] ts h = refl
  sublist-from_piece false (e ∷ l) [] h = cc
  sublist-from_piece false (e ∷ l) (t ∷ ts) h = let r = and_parts (same cmp t e) (is_prefix cmp l ts) h in
      rw r.0 (sublist-from_piece false l ts r.1)

  -- a piece and the rest are together the list
  pub length-without : (l ts : List X) → is_sublist cmp l ts ≡ true → length l + length (without cmp l ts) ≡ length ts
  length-without [] ts h = omega arith
  length-without (e ∷ l) [] h = cc
  length-without (e ∷ l) (t ∷ ts) h =
      elim (same cmp t e) as (λ b. (if b then is_sublist cmp l ts else is_sublist cmp (e ∷ l) ts) ≡ true
      → length (e ∷ l) + length (if b then without cmp l ts else t ∷ without cmp (e ∷ l) ts) ≡ length (t ∷ ts)) [
        | true ↦ λ k. omega (arith, length-without l ts k)
        | false ↦ λ k. omega (arith, length-without (e ∷ l) ts k)
      ] h

  -- what holds of the items holds of a piece and of the rest
  pub all-piece : (P : X → Type 0) (l ts : List X) → is_sublist cmp l ts ≡ true → AllByRecursion P ts
      → AllByRecursion P l
  all-piece P [] ts h k = tt
  all-piece P (e ∷ l) [] h k = cc
  all-piece P (e ∷ l) (t ∷ ts) h k =
      elim (same cmp t e) as (λ b. same cmp t e ≡ b
      → (if b then is_sublist cmp l ts else is_sublist cmp (e ∷ l) ts) ≡ true → AllByRecursion P (e ∷ l)) [
        | true ↦ λ q i. (subst P (same-sound t e q) k.0, all-piece P l ts i k.1)
        | false ↦ λ q i. all-piece P (e ∷ l) ts i k.1
      ] refl h

  pub all-without : (P : X → Type 0) (l ts : List X) → AllByRecursion P ts → AllByRecursion P (without cmp l ts)
  all-without P [] ts k = k
  all-without P (e ∷ l) [] k = tt
  all-without P (e ∷ l) (t ∷ ts) k =
      elim (same cmp t e) as (λ b. AllByRecursion P (if b then without cmp l ts else t ∷ without cmp (e ∷ l) ts))
      [ true ↦ all-without P l ts k.1 | false ↦ (k.0, all-without P (e ∷ l) ts k.1) ]

  -- the list of the pieces is exact, and strictly ascending
  pub pieces_among-exact : (b : Bool) (ns : List ℕ) (l ts : List X)
      → In l (pieces_among cmp b ns ts) ↔ (In (length l) ns × (is_piece cmp b l ts ≡ true))
  pieces_among-exact b ns l ts = (
    λ h.
        let a = from_in-flat (λ n. pieces_of cmp b n ts) l ns h in
        let k = words-sound (starts b) (after cmp) (λ _. true) a.0 ts l a.2 in
        (subst (λ n. In n ns) (sym k.0) a.1, piece-accepts b l ts k.1),
    λ h. in-flat (λ n. pieces_of cmp b n ts) (length l) l ns h.0
        (words-complete (starts b) (after cmp) (λ _. true) ts l (accepts-piece b l ts h.1)),
  )

  pub pieces-exact : (b : Bool) (l ts : List X) → In l (pieces cmp b ts) ↔ (is_piece cmp b l ts ≡ true)
  pieces-exact b l ts = (
    λ h. ((pieces_among-exact b (count_to 0 (length ts)) l ts).0 h).1,
    λ h.
        let k : length l ≤ length ts = omega (arith, length-without l ts (sublist-from_piece b l ts h)) in
        (pieces_among-exact b (count_to 0 (length ts)) l ts).1
        (in-count_to (length l) 0 (length ts) (omega arith) (omega arith), h),
  )

  -- lists of fewer items come first, and those of one length item by item
  shorter_first : (us vs : List (List X)) (m n : ℕ) → nat_cmp m n ≡ Less → ((u : List X) → In u us → length u ≡ m)
      → ((v : List X) → In v vs → length v ≡ n)
      → AllByRecursion (λ u. AllByRecursion (λ v. shortlex cmp u v ≡ Less) vs) us
  shorter_first [] vs m n e h k = tt
  shorter_first (u ∷ us) vs m n e h k = (below vs k, shorter_first us vs m n e (λ v i. h v (inr i)) k)
    where
      below : (vs : List (List X)) → ((v : List X) → In v vs → length v ≡ n)
          → AllByRecursion (λ v. shortlex cmp u v ≡ Less) vs
      below [] k = tt
      below (v ∷ vs) k = (rw (h u (inl refl), k v (inl refl), e) refl, below vs (λ w i. k w (inr i)))

  shortlex-same_length : (n : ℕ) (ws : List (List X)) → ((w : List X) → In w ws → length w ≡ n)
      → IsStrictlySortedBy (slice_cmp cmp) ws → IsStrictlySortedBy (shortlex cmp) ws
  unfolding IsStrictlySortedBy
  shortlex-same_length n [] h k = tt
  shortlex-same_length n (w ∷ ws) h k =
      (above ws (λ v i. h v (inr i)) k.0, shortlex-same_length n ws (λ v i. h v (inr i)) k.1)
    where
      above : (vs : List (List X)) → ((v : List X) → In v vs → length v ≡ n)
          → AllByRecursion (λ v. slice_cmp cmp w v ≡ Less) vs → AllByRecursion (λ v. shortlex cmp w v ≡ Less) vs
      above [] j i = tt
      above (v ∷ vs) j i =
          (rw (h w (inl refl), j v (inl refl), tied_itself nat_cmp_total n) i.0, above vs (λ u m. j u (inr m)) i.1)

  pub pieces_among-ascending : (b : Bool) (ns : List ℕ) (ts : List X) → IsStrictlySortedBy nat_cmp ns
      → IsStrictlySortedBy (shortlex cmp) (pieces_among cmp b ns ts)
  pieces_among-ascending b ns ts up =
      ascending-flat nat_cmp (shortlex cmp) (λ n. pieces_of cmp b n ts) ns up
      (λ n. shortlex-same_length n (pieces_of cmp b n ts)
      (λ w i. (words-sound (starts b) (after cmp) (λ _. true) n ts w i).0)
      (words-ascending (starts b) (after cmp) (λ _. true) cmp o (ascending-starts b) n ts))
      (λ m n e. shorter_first (pieces_of cmp b m ts) (pieces_of cmp b n ts) m n e
      (λ u i. (words-sound (starts b) (after cmp) (λ _. true) m ts u i).0)
      (λ v i. (words-sound (starts b) (after cmp) (λ _. true) n ts v i).0))

  pub pieces-ascending : (b : Bool) (ts : List X) → IsStrictlySortedBy (shortlex cmp) (pieces cmp b ts)
  pieces-ascending b ts = pieces_among-ascending b (count_to 0 (length ts)) ts (ascending-count_to 0 (length ts))
