-- What is drawn: which lists, in which order, and which of them comes first, or next.
use Rattle.std.proofs.Common.{◌≡◌, ℕ, zero, suc, ◌<◌, ◌≤◌, ◌+◌, ◌-◌, List, [], ◌∷◌, ◌++◌, Bool, true, false, ◌&&◌, refl}
use Rattle.std.proofs.Common.{sym, ap, ◌∙◌, subst, length, take, arith, inl, inr, ◌⊎◌}
use Rattle.std.specs.Prelude.{if◌then◌else◌, ⊤, min, Some, slice_get, MatchBool, flat_map, ◌↔◌}
use Rattle.std.specs.declared.cmp.Ordering.{Ordering}
use Rattle.std.specs.declared.cmp.Ordering.TheVariants.{Less, Equal, Greater}
use Rattle.std.specs.Ordering.{nat_cmp, ordering_then}
use Rattle.std.specs.Cmp.{IsTotalOrder}
use Rattle.std.specs.Cmp.Lexicographic.{slice_cmp}
use Rattle.std.specs.List.{range_with_len}
use Rattle.std.specs.List.Sorted.{IsStrictlySortedBy}
use Rattle.std.proofs.lemmas.Bool.{and_from}
use Rattle.std.proofs.lemmas.Cmp.{tied_itself, nat_cmp_total, by_ranked, ranked, lists_total}
use Rattle.std.proofs.lemmas.List.{length-take-le}
use Rattle.mp_term.specs.Order.{shortlex}
use Rattle.mp_term.specs.OrderLaws.{shortlex_total}
use Rattle.mp_term.specs.Search.{In}
use Rattle.mp_term.specs.Pieces.{same, is_prefix, is_piece, pieces_of, pieces_among}
use Rattle.mp_term.proofs.ListingLaws.{irreflexive}
use Rattle.mp_term.proofs.PiecesLaws.{nat_cmp-less, in-range_with_len, from_in-range_with_len, ascending-range_with_len}
use Rattle.mp_term.proofs.PiecesLaws.{same-itself, same-sound, pieces_among-exact, pieces_among-ascending}
use Rattle.mp_term.proofs.PiecesLaws.{in-distinct, from_in-distinct, ascending-distinct}
use Rattle.mp_search.specs.declared.level.Source.{Source}
use Rattle.mp_search.specs.declared.level.Source.TheVariants.{Nothing, Front, Bag, Whole}
use Rattle.mp_term.specs.Listing.{above}
use Rattle.mp_search.specs.Drawn.{lengths, drawn, lists_above}
use Rattle.mp_search.specs.Sublists.{IsNextSublist, IsLastSublist}
use Rattle.mp_term.proofs.ListsAbove.{above-none, above-least, above-next}
use Rattle.mp_search.proofs.Sublists.{Ascends, sub-take, least}

module _ {X : Type 0} (cmp : X → X → Ordering) (o : IsTotalOrder cmp)
    (means : (x y : X) → cmp x y ≡ Equal → x ≡ y) where
  -- shortlex, by lengths and then item by item
  pub shortlex-less : (a b : List X) → shortlex cmp a b ≡ Less
      → (length a < length b) ⊎ ((length a ≡ length b) × (slice_cmp cmp a b ≡ Less))
  shortlex-less a b h =
      by_ranked (length a < length b) (length a ≡ length b) (length b < length a) (nat_cmp (length a) (length b))
      (ranked (length a) (length b) (nat_cmp (length a) (length b)) refl)
      (λ e p. inl p)
      (λ e p. inr (p, rw e at h))
      (λ e p. absurd (let k : Greater ≡ Less = rw e at h in cc))

  pub shortlex-shorter : (a b : List X) → length a < length b → shortlex cmp a b ≡ Less
  shortlex-shorter a b h = rw (nat_cmp-less (length a) (length b) h) refl

  pub shortlex-one_length : (a b : List X) → length a ≡ length b → slice_cmp cmp a b ≡ Less → shortlex cmp a b ≡ Less
  shortlex-one_length a b e h = rw (e, tied_itself nat_cmp_total (length b)) h

  pub same_list : (a b : List X) → shortlex cmp a b ≡ Equal → a ≡ b
  same_list a b e =
      by_ranked (length a < length b) (length a ≡ length b) (length b < length a) (nat_cmp (length a) (length b))
      (ranked (length a) (length b) (nat_cmp (length a) (length b)) refl)
      (λ q p. absurd (let k : Less ≡ Equal = rw q at e in cc))
      (λ q p. items_same a b (rw q at e))
      (λ q p. absurd (let k : Greater ≡ Equal = rw q at e in cc))
    where
      items_same : (a b : List X) → slice_cmp cmp a b ≡ Equal → a ≡ b
      items_same [] [] e = refl
      items_same [] (y ∷ b) e = cc
      items_same (x ∷ a) [] e = cc
      items_same (x ∷ a) (y ∷ b) e =
          elim (cmp x y) as (λ r. cmp x y ≡ r → ordering_then r (slice_cmp cmp a b) ≡ Equal → x ∷ a ≡ y ∷ b) [
            | Less ↦ λ q k. cc
            | Equal ↦ λ q k. (λ i. means x y q i ∷ items_same a b k i)
            | Greater ↦ λ q k. cc
          ] refl e

  not_itself : (a : List X) → shortlex cmp a a ≡ Less → ⊥
  not_itself a = irreflexive (shortlex cmp) (shortlex_total o) a

  not_below_nothing : (a : List X) → shortlex cmp a [] ≡ Less → ⊥
  not_below_nothing a h =
      elim (shortlex-less a [] h) [ inl p ↦ absurd (omega (arith, p)) | inr p ↦ none a p.1 ]
    where
      none : (a : List X) → slice_cmp cmp a [] ≡ Less → ⊥
      none [] k = cc
      none (x ∷ a) k = cc

  -- fronts
  front : (l ts : List X) → is_prefix cmp l ts ≡ true → l ≡ take (length l) ts
  front [] ts h = refl
  front (e ∷ l) [] h = cc
  front (e ∷ l) (t ∷ ts) h =
      elim (same cmp t e) as (λ b. same cmp t e ≡ b → b && is_prefix cmp l ts ≡ true → e ∷ l ≡ t ∷ take (length l) ts) [
        | true ↦ λ q k. (λ i. sym (same-sound cmp o means t e q) i ∷ front l ts k i)
        | false ↦ λ q k. cc
      ] refl h

  front_is : (n : ℕ) (ts : List X) → is_prefix cmp (take n ts) ts ≡ true
  front_is zero ts = refl
  front_is (suc n) [] = refl
  front_is (suc n) (t ∷ ts) = and_from _ _ (same-itself cmp o means t) (front_is n ts)

  front_piece : (b : Bool) (n : ℕ) (ts : List X) → is_piece cmp b (take n ts) ts ≡ true
  front_piece true n ts = sub-take cmp o means n ts
  front_piece false n ts = front_is n ts

  -- what is drawn from ascends, where sublists are drawn
  abbrev pub Fit : Bool → List X → Type 0
  Fit true ts = Ascends cmp o means ts
  Fit false ts = ⊤

  least_piece : (b : Bool) (m ts : List X) → Fit b ts → is_piece cmp b m ts ≡ true
      → slice_cmp cmp m (take (length m) ts) ≡ Less → ⊥
  least_piece true m ts f h l = least cmp o means m ts f h l
  least_piece false m ts f h l =
      irreflexive (slice_cmp cmp) (lists_total o) m (subst (λ w. slice_cmp cmp m w ≡ Less) (sym (front m ts h)) l)

  -- the pieces that have the lengths
  abbrev among : Bool → ℕ → ℕ → List X → List (List X)
  among b least_of most ts = pieces_among cmp b (lengths least_of most (length ts)) ts

  pub among-exact : (b : Bool) (low most : ℕ) (l ts : List X) → In l (among b low most ts)
      ↔ (low ≤ length l) × (length l ≤ min most (length ts)) × (is_piece cmp b l ts ≡ true)
  among-exact b low most l ts = (
    λ h.
        let k = (pieces_among-exact cmp o means b (lengths low most (length ts)) l ts).0 h in
        let r = from_in-range_with_len (length l) low (min most (length ts) + 1 - low) k.0 in
        (r.0, omega (arith, r.0, r.1), k.1),
    λ h. (pieces_among-exact cmp o means b (lengths low most (length ts)) l ts).1
        (in-range_with_len (length l) low (min most (length ts) + 1 - low) h.0 (omega (arith, h.0, h.1)), h.2),
  )

  among-ascending : (b : Bool) (low most : ℕ) (ts : List X)
      → IsStrictlySortedBy (shortlex cmp) (among b low most ts)
  among-ascending b low most ts = pieces_among-ascending cmp o means b (lengths low most (length ts)) ts
      (ascending-range_with_len low (min most (length ts) + 1 - low))

  -- whatever is drawn ascends
  pub drawn-ascending : (s : Source) (pool left : List X) → IsStrictlySortedBy (shortlex cmp) (drawn cmp s pool left)
  unfolding IsStrictlySortedBy
  drawn-ascending Nothing pool left = tt
  drawn-ascending (Front low most) pool left = among-ascending false low most left
  drawn-ascending (Bag low most) pool left = among-ascending true low most pool
  drawn-ascending (Whole empty whole) pool left = ascending-distinct (shortlex cmp) (shortlex_total o) same_list
      ((if empty then [] ∷ [] else []) ++ (if whole then pool ∷ [] else []))

  -- the first of the pieces is the front of the least length
  at_front : (ls : List (List X)) (w : List X) (ms : List (List X)) → ls ≡ w ∷ ms → slice_get ls 0 ≡ Some w
  at_front ls w ms e = ap (λ us. slice_get us 0) e

  pub first_front : (b : Bool) (low most : ℕ) (ts : List X) → Fit b ts → low ≤ min most (length ts)
      → slice_get (among b low most ts) 0 ≡ Some (take low ts)
  first_front b low most ts f h =
      let ls : List (List X) = among b low most ts in
      let w : List X = take low ts in
      let size : length w ≡ low = length-take-le low ts (omega (arith, h)) in
      at_front ls w (above (shortlex cmp) w ls)
      (above-least (shortlex cmp) (shortlex_total o) w ls (among-ascending b low most ts)
      ((among-exact b low most w ts).1 (omega (arith, size), omega (arith, size, h), front_piece b low ts))
      (λ y i l.
      let k = (among-exact b low most y ts).0 i in
      elim (shortlex-less y w l) [
        | inl p ↦ absurd (omega (arith, p, k.0, size))
        | inr p ↦ least_piece b y ts f k.2
            (subst (λ n. slice_cmp cmp y (take n ts) ≡ Less) (sym (p.0 ∙ size)) p.1)
      ]))

  no_front : (b : Bool) (low most : ℕ) (ts : List X) → min most (length ts) < low → among b low most ts ≡ []
  no_front b low most ts h =
      let none : min most (length ts) + 1 - low ≡ 0 = omega (arith, h) in
      ap (λ n. flat_map (λ k. pieces_of cmp b k ts) (range_with_len low n)) none

  pub first-moved : (b r : Bool) (low most : ℕ) (ts new : List X) → Fit b ts
      → MatchBool r ((low ≤ min most (length ts)) × (new ≡ take low ts)) (min most (length ts) < low)
      → MatchBool r (slice_get (among b low most ts) 0 ≡ Some new) (among b low most ts ≡ [])
  first-moved b true low most ts new f h = first_front b low most ts f h.0 ∙ ap Some (sym h.1)
  first-moved b false low most ts new f h = no_front b low most ts h

  -- no piece of the length of w comes after it
  abbrev pub IsLastPiece : Bool → List X → List X → Type 0
  IsLastPiece b w ts = (m : List X) → is_piece cmp b m ts ≡ true → length m ≡ length w → slice_cmp cmp w m ≡ Less → ⊥

  pub last_front : (w ts : List X) → w ≡ take (length w) ts → IsLastPiece false w ts
  last_front w ts h m i e l =
      let same : m ≡ w = front m ts i ∙ ap (λ n. take n ts) e ∙ sym h in
      irreflexive (slice_cmp cmp) (lists_total o) w (subst (λ v. slice_cmp cmp w v ≡ Less) same l)

  -- a list that is drawn as a front is the front of its length
  pub front_drawn : (low most : ℕ) (w ts : List X) → In w (among false low most ts) → w ≡ take (length w) ts
  front_drawn low most w ts i = front w ts ((among-exact false low most w ts).0 i).2

  pub last_sublist : (w ts : List X) → IsLastSublist cmp ts w → IsLastPiece true w ts
  last_sublist w ts h m i e l = h m (record { sublist = i; same_length = e; after = l })

  -- after it comes the front that is longer by one
  pub next_front : (b : Bool) (low most : ℕ) (w ts : List X) → Fit b ts → In w (among b low most ts)
      → IsLastPiece b w ts → length w + 1 ≤ min most (length ts)
      → slice_get (lists_above cmp w (among b low most ts)) 0 ≡ Some (take (length w + 1) ts)
  next_front b low most w ts f i last h =
      let ls : List (List X) = among b low most ts in
      let v : List X = take (length w + 1) ts in
      let size : length v ≡ length w + 1 = length-take-le (length w + 1) ts (omega (arith, h)) in
      let own = (among-exact b low most w ts).0 i in
      at_front (lists_above cmp w ls) v (above (shortlex cmp) v ls)
      (above-next (shortlex cmp) (shortlex_total o) w v ls (among-ascending b low most ts)
      ((among-exact b low most v ts).1
      (omega (arith, size, own.0), omega (arith, size, h), front_piece b (length w + 1) ts))
      (shortlex-shorter w v (omega (arith, size)))
      (λ y j l k.
      let m = (among-exact b low most y ts).0 j in
      elim (shortlex-less w y l) [
        | inl p ↦ elim (shortlex-less y v k) [
          | inl q ↦ absurd (omega (arith, p, q, size))
          | inr q ↦ least_piece b y ts f m.2
              (subst (λ n. slice_cmp cmp y (take n ts) ≡ Less) (sym (q.0 ∙ size)) q.1)
        ]
        | inr p ↦ last y m.2 (sym p.0) p.1
      ]))

  no_longer : (b : Bool) (low most : ℕ) (w ts : List X) → In w (among b low most ts) → IsLastPiece b w ts
      → min most (length ts) < length w + 1 → lists_above cmp w (among b low most ts) ≡ []
  no_longer b low most w ts i last h =
      above-none (shortlex cmp) (shortlex_total o) w (among b low most ts) (λ y j l.
      let m = (among-exact b low most y ts).0 j in
      elim (shortlex-less w y l)
      [ inl p ↦ absurd (omega (arith, p, m.1, h)) | inr p ↦ last y m.2 (sym p.0) p.1 ])

  pub next-moved : (b r : Bool) (low most : ℕ) (w ts new : List X) → Fit b ts → In w (among b low most ts)
      → IsLastPiece b w ts
      → MatchBool r ((length w + 1 ≤ min most (length ts)) × (new ≡ take (length w + 1) ts))
      (min most (length ts) < length w + 1)
      → MatchBool r (slice_get (lists_above cmp w (among b low most ts)) 0 ≡ Some new)
      (lists_above cmp w (among b low most ts) ≡ [])
  next-moved b true low most w ts new f i last h = next_front b low most w ts f i last h.0 ∙ ap Some (sym h.1)
  next-moved b false low most w ts new f i last h = no_longer b low most w ts i last h

  -- or the next sublist of its length
  pub next_sublist : (low most : ℕ) (w ts new : List X) → In w (among true low most ts)
      → IsNextSublist cmp ts w new → slice_get (lists_above cmp w (among true low most ts)) 0 ≡ Some new
  next_sublist low most w ts new i n =
      let ls : List (List X) = among true low most ts in
      let own = (among-exact true low most w ts).0 i in
      let size = n.later.same_length in
      at_front (lists_above cmp w ls) new (above (shortlex cmp) new ls)
      (above-next (shortlex cmp) (shortlex_total o) w new ls (among-ascending true low most ts)
      ((among-exact true low most new ts).1
      (omega (arith, size, own.0), omega (arith, size, own.1), n.later.sublist))
      (shortlex-one_length w new (sym size) n.later.after)
      (λ y j l k.
      let m = (among-exact true low most y ts).0 j in
      elim (shortlex-less w y l) [
        | inl p ↦ elim (shortlex-less y new k)
            [ inl q ↦ absurd (omega (arith, p, q, size)) | inr q ↦ absurd (omega (arith, p, q.0, size)) ]
        | inr p ↦ elim (shortlex-less y new k) [
          | inl q ↦ absurd (omega (arith, p.0, q, size))
          | inr q ↦ n.none_between y (record { sublist = m.2; same_length = sym p.0; after = p.1 }) q.1
        ]
      ]))

  -- nothing and the whole
  module _ (empty whole : Bool) (pool left : List X) where
    abbrev both : List (List X)
    both = (if empty then [] ∷ [] else []) ++ (if whole then pool ∷ [] else [])

    abbrev ends : List (List X)
    ends = drawn cmp (Whole empty whole) pool left

    pub is_end : (l : List X) → In l ends → (l ≡ []) ⊎ ((whole ≡ true) × (l ≡ pool))
    is_end l i = at empty whole (from_in-distinct (shortlex cmp) (shortlex_total o) same_list l both i)
      where
        at_pool : (w : Bool) → In l (if w then pool ∷ [] else []) → (l ≡ []) ⊎ ((w ≡ true) × (l ≡ pool))
        at_pool true (inl e) = inr (refl, e)
        at_pool true (inr i) = absurd i
        at_pool false i = absurd i

        at : (e w : Bool) → In l ((if e then [] ∷ [] else []) ++ (if w then pool ∷ [] else []))
            → (l ≡ []) ⊎ ((w ≡ true) × (l ≡ pool))
        at true w (inl q) = inl q
        at true w (inr i) = at_pool w i
        at false w i = at_pool w i

    pub pool_there : whole ≡ true → In pool ends
    pool_there e = in-distinct (shortlex cmp) (shortlex_total o) same_list pool both
        (at empty whole e)
      where
        at : (e w : Bool) → w ≡ true → In pool ((if e then [] ∷ [] else []) ++ (if w then pool ∷ [] else []))
        at true true q = inr (inl refl)
        at false true q = inl refl
        at true false q = cc
        at false false q = cc

    pub next-whole : (w : List X) → whole ≡ true → length w < length pool
        → slice_get (lists_above cmp w ends) 0 ≡ Some pool
    next-whole w e h =
        at_front (lists_above cmp w ends) pool (above (shortlex cmp) pool ends)
        (above-next (shortlex cmp) (shortlex_total o) w pool ends (drawn-ascending (Whole empty whole) pool left)
        (pool_there e) (shortlex-shorter w pool h)
        (λ y i l k. elim (is_end y i) [
          | inl q ↦ not_below_nothing w (subst (λ v. shortlex cmp w v ≡ Less) q l)
          | inr q ↦ not_itself pool (subst (λ v. shortlex cmp v pool ≡ Less) q.1 k)
        ]))

    pub no-whole : (w : List X) → In w ends → (whole ≡ true → length pool ≤ length w) → lists_above cmp w ends ≡ []
    no-whole w i h =
        above-none (shortlex cmp) (shortlex_total o) w ends (λ y j l. elim (is_end y j) [
          | inl q ↦ not_below_nothing w (subst (λ v. shortlex cmp w v ≡ Less) q l)
          | inr q ↦ at q.0 (subst (λ v. shortlex cmp w v ≡ Less) q.1 l) (is_end w i)
        ])
      where
        nil : (xs : List X) → length xs ≤ 0 → xs ≡ []
        nil [] k = refl
        nil (x ∷ xs) k = absurd (omega (arith, k))

        at : whole ≡ true → shortlex cmp w pool ≡ Less → (w ≡ []) ⊎ ((whole ≡ true) × (w ≡ pool)) → ⊥
        at t l (inl q) = not_itself w
            (subst (λ v. shortlex cmp w v ≡ Less) (nil pool (omega (arith, h t, ap length q)) ∙ sym q) l)
        at t l (inr q) = not_itself w (subst (λ v. shortlex cmp w v ≡ Less) (sym q.1) l)

  -- the first of them
  pub first-nothing : (whole : Bool) (pool left : List X)
      → slice_get (drawn cmp (Whole true whole) pool left) 0 ≡ Some []
  first-nothing whole pool left =
      let ls : List (List X) = ends true whole pool left in
      at_front ls [] (above (shortlex cmp) [] ls)
      (above-least (shortlex cmp) (shortlex_total o) [] ls (drawn-ascending (Whole true whole) pool left)
      (in-distinct (shortlex cmp) (shortlex_total o) same_list [] (both true whole pool left) (inl refl))
      (λ y i l. not_below_nothing y l))
