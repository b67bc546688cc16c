-- The list of all pairings is what it says, and the search walks through it.
use Rattle.std.proofs.Common.{◌≡◌, ℕ, zero, suc, ◌<◌, ◌≤◌, ◌+◌, List, [], ◌∷◌, Bool, true, false, cond, refl, sym, ap}
use Rattle.std.proofs.Common.{◌∙◌, ◌⊎◌, inl, inr, arith, length, take, get_or, subst}
use Rattle.std.specs.Prelude.{Contains, count_by, ◌==◌, ◌&&◌, ◌||◌, nat_le, slice_index, MatchBool}
use Rattle.std.specs.declared.cmp.Ordering.TheVariants.{Less}
use Rattle.std.specs.List.{AllZip, list_any, list_all}
use Rattle.std.proofs.lemmas.Cmp.{nat_list_cmp_total}
use Rattle.std.proofs.lemmas.List.{length-take-le, take_all}
use Rattle.std.proofs.lemmas.List.Sums.{sum_by-cons}
use Rattle.std.proofs.lemmas.Bool.{and_parts, and_from}
use Rattle.mp_term.specs.OrderLaws.{nats_same}
use Rattle.mp_term.specs.Search.{In}
use Rattle.mp_term.proofs.ListingLaws.{in-from_contains, contains-from_in, list_all-in}
use Rattle.mp_choice.specs.Listed.{number_lists, IsFirst, HasNone, IsNext, IsLast}
use Rattle.mp_choice.proofs.Lexicographic.{lex, less_head, less_tail, less_cases}
use Rattle.mp_choice.proofs.Listed.{in-number_lists, listing-distinct}
use Rattle.mp_choice.proofs.Tests.{nat_le-from, le_from-nat_le, eq_test, eq_from}
use Rattle.mp_pair.specs.Pairings.{IsPairing, ArePairings}
use Rattle.mp_pair.specs.PairingList.{one_each, within, pairings_of}
use Rattle.mp_pair.specs.PairingSteps.{Below, IsFirstAt, NoneAt, IsFront}
use Rattle.mp_pair.proofs.PairLaws.{zip_length, zip-drop, uses_front}
use Rattle.mp_pair.proofs.SearchLaws.{front_below, wider}

-- a class is found in the classes that it is one of
any_test : (c : ℕ) (ds : List ℕ) → In c ds → list_any (λ d. d == c) ds ≡ true
any_test c [] i = absurd i
any_test c (d ∷ ds) (inl e) = rw (eq_test d c (sym e)) refl
any_test c (d ∷ ds) (inr i) = elim (d == c) as
    (λ b. (b || list_any (λ d. d == c) ds) ≡ true) [ true ↦ refl | false ↦ any_test c ds i ]

-- what is found is one of them
any_from : (c : ℕ) (ds : List ℕ) → list_any (λ d. d == c) ds ≡ true → In c ds
any_from c [] h = (let wrong : false ≡ true = h in cc)
any_from c (d ∷ ds) h = by_test (d == c) refl h (λ k. any_from c ds k)
  where
    by_test : (b : Bool) → (d == c) ≡ b → (b || list_any (λ d. d == c) ds) ≡ true
        → (list_any (λ d. d == c) ds ≡ true → In c ds) → In c (d ∷ ds)
    by_test true t h f = inl (sym (eq_from d c t))
    by_test false t h f = inr (f h)

-- choices of one class for each item pass the test
each_test : (left : List (List ℕ)) (choice : List ℕ) → AllZip Contains left choice → one_each left choice ≡ true
each_test [] [] w = refl
each_test [] (c ∷ choice) w = absurd w
each_test (ds ∷ left) [] w = absurd w
each_test (ds ∷ left) (c ∷ choice) w = and_from _ _ (any_test c ds (in-from_contains c ds w.0))
    (each_test left choice w.1)

-- what passes the test is one class for each item
each_from : (left : List (List ℕ)) (choice : List ℕ) → one_each left choice ≡ true → AllZip Contains left choice
each_from [] [] h = tt
each_from [] (c ∷ choice) h = (let wrong : false ≡ true = h in cc)
each_from (ds ∷ left) [] h = (let wrong : false ≡ true = h in cc)
each_from (ds ∷ left) (c ∷ choice) h = (
  contains-from_in c ds
      (any_from c ds (and_parts (list_any (λ d. d == c) ds) (one_each left choice) h).0),
  each_from left choice (and_parts (list_any (λ d. d == c) ds) (one_each left choice) h).1,
)

-- a test that all pass is passed by each of a list
all_true : (p : ℕ → Bool) → ((x : ℕ) → p x ≡ true) → (xs : List ℕ) → list_all p xs ≡ true
all_true p h [] = refl
all_true p h (x ∷ xs) = and_from _ _ (h x) (all_true p h xs)

-- a class isn't in the list, or it is one of it
none_or_in : (class : ℕ) (xs : List ℕ) → (count_by (λ c. c == class) xs ≡ 0) ⊎ In class xs
none_or_in class [] = inl refl
none_or_in class (x ∷ xs) = by_test (x == class) refl (none_or_in class xs)
  where
    by_test : (b : Bool) → (x == class) ≡ b → (count_by (λ c. c == class) xs ≡ 0) ⊎ In class xs
        → (count_by (λ c. c == class) (x ∷ xs) ≡ 0) ⊎ In class (x ∷ xs)
    by_test true t r = inr (inl (sym (eq_from x class t)))
    by_test false t (inr i) = inr (inr i)
    by_test false t (inl z) =
        let u : count_by (λ c. c == class) (x ∷ xs) ≡ cond (x == class) 1 0 + count_by (λ c. c == class) xs =
        sum_by-cons (λ c. cond (c == class) 1 0) x xs in
        let v : cond {A = ℕ} (x == class) 1 0 ≡ 0 = ap (λ (b : Bool). cond {A = ℕ} b 1 0) t in
        inl (omega arith)

-- where each chosen class passes the test, each class is chosen within its capacity
within_from : (cs choice : List ℕ) → within cs choice ≡ true → (class : ℕ)
    → count_by (λ c. c == class) choice ≤ slice_index cs class
within_from cs choice h class = made (none_or_in class choice)
  where
    made : (count_by (λ c. c == class) choice ≡ 0) ⊎ In class choice
        → count_by (λ c. c == class) choice ≤ slice_index cs class
    made (inl z) = omega arith
    made (inr i) = le_from-nat_le (count_by (λ c. c == class) choice) (slice_index cs class)
        (list_all-in (λ d. nat_le (count_by (λ c. c == d) choice) (slice_index cs d)) choice class h i)

-- the value is the list of all pairings
pub pairings_of-listing : (cs : List ℕ) (left : List (List ℕ)) → ArePairings cs left (pairings_of cs left)
unfolding pairings_of
pairings_of-listing cs left =
    listing-distinct lex nat_list_cmp_total (IsPairing cs left) (λ choice. one_each left choice && within cs choice)
    (number_lists (length cs) (length left)) nats_same
    (λ xs p. and_from _ _ (each_test left xs p.one_each)
    (all_true (λ d. nat_le (count_by (λ c. c == d) xs) (slice_index cs d))
    (λ d. nat_le-from (count_by (λ c. c == d) xs) (slice_index cs d) (p.within d)) xs))
    (λ xs t. let r = and_parts (one_each left xs) (within cs xs) t in
    record { one_each = each_from left xs r.0; within = within_from cs xs r.1 })
    (λ xs p. in-number_lists (length cs) (length left) xs (sym (zip_length left xs p.one_each))
    (wider (length cs) xs (front_below cs xs p.within)))

-- the list by the graph that a generator holds
pub pairings_held : (cs held : List ℕ) (left kept : List (List ℕ)) → held ≡ cs → kept ≡ left
    → ArePairings cs left (pairings_of held kept)
pairings_held cs held left kept e f = subst (λ qs. ArePairings cs left (pairings_of qs kept)) (sym e)
    (subst (λ ls. ArePairings cs left (pairings_of cs ls)) (sym f) (pairings_of-listing cs left))

-- nothing is below the start
not_below_nil : (xs : List ℕ) → Below xs [] 0 → ⊥
not_below_nil [] h = h
not_below_nil (x ∷ xs) h = omega arith

-- the first pairing from the start on is the first
pub first_pairing : (found : Bool) (cs : List ℕ) (left : List (List ℕ)) (new : List ℕ)
    → MatchBool found (IsFirstAt cs left [] 0 new) (NoneAt cs left [] 0)
    → MatchBool found (IsFirst lex (IsPairing cs left) new) (HasNone (IsPairing cs left))
first_pairing true cs left new h = record {
  item = h.pairing;
  none_below =
      λ others p l. h.none_before others p (not_below_nil others) l;
}
first_pairing false cs left new h = λ others p. h others p (not_below_nil others)

-- the place after a list lies above no list that comes later, and above all others of its length
above_place : (k : ℕ) (old ys : List ℕ) → k + 1 ≡ length old → length ys ≡ length old → lex old ys ≡ Less
    → Below ys (take k old) (get_or old k 0 + 1) → ⊥
above_place k [] ys e f l b = absurd (omega arith)
above_place k (o ∷ os) [] e f l b = absurd (omega arith)
above_place zero (o ∷ []) (y ∷ []) e f l b =
    elim (less_cases o y [] [] l) [ inl q ↦ omega arith | inr q ↦ omega (arith, q.0, nothing q.1) ]
  where
    nothing : lex [] [] ≡ Less → y < o
    nothing h = cc
above_place zero (o ∷ p ∷ os) (y ∷ ys) e f l b = absurd (omega arith)
above_place zero (o ∷ []) (y ∷ z ∷ ys) e f l b = absurd (omega arith)
above_place (suc k) (o ∷ os) (y ∷ ys) e f l (inl q) =
    elim (less_cases o y os ys l) [ inl r ↦ omega arith | inr r ↦ omega (arith, r.0) ]
above_place (suc k) (o ∷ os) (y ∷ ys) e f l (inr q) =
    elim (less_cases o y os ys l) [
      | inl r ↦ omega (arith, q.0)
      | inr r ↦
          above_place k os ys (omega arith) (omega arith) r.1 q.1
    ]

-- a list of the same length that isn't below the place after a list comes later
less_from_place : (k : ℕ) (old ys : List ℕ) → k + 1 ≡ length old → length ys ≡ length old
    → (Below ys (take k old) (get_or old k 0 + 1) → ⊥) → lex old ys ≡ Less
less_from_place k [] ys e f h = absurd (omega arith)
less_from_place k (o ∷ os) [] e f h = absurd (omega arith)
less_from_place zero (o ∷ os) (y ∷ ys) e f h =
    less_head o y os ys (let c : (y < o + 1) ⊎ (o < y) = grind arith in elim c [ inl q ↦ absurd (h q) | inr q ↦ q ])
less_from_place (suc k) (o ∷ os) (y ∷ ys) e f h =
    made (let c : (o < y) ⊎ ((o ≡ y) ⊎ (y < o)) = grind arith in c)
    (λ n. less_from_place k os ys (omega arith) (omega arith) n)
  where
    made : (o < y) ⊎ ((o ≡ y) ⊎ (y < o)) → ((Below ys (take k os) (get_or os k 0 + 1) → ⊥) → lex os ys ≡ Less)
        → lex (o ∷ os) (y ∷ ys) ≡ Less
    made (inl q) g = less_head o y os ys q
    made (inr (inl q)) g = less_tail o y os ys q (g (λ b. h (inr (sym q, b))))
    made (inr (inr q)) g = absurd (h (inl q))

-- what comes before the last choice of a pairing is a front
pub front_of : (cs : List ℕ) (left : List (List ℕ)) (old : List ℕ) (k : ℕ) → IsPairing cs left old → k ≤ length old
    → IsFront cs left (take k old)
front_of cs left old k q h =
    let whole : AllZip Contains (take (length left) left) old =
    subst (λ ls. AllZip Contains ls old) (sym (take_all (length left) left (omega arith))) q.one_each in
    record {
      one_each = subst (λ j. AllZip Contains (take j left) (take k old)) (sym (length-take-le k old h))
          (zip-drop (length left) left old whole k (omega (arith, zip_length left old q.one_each)));
      within = λ class. omega (arith, q.within class, uses_front class k old);
    }

-- the first pairing from the place after a pairing on is the next
pub next_pairing : (found : Bool) (cs : List ℕ) (left : List (List ℕ)) (old new : List ℕ) (k : ℕ)
    → IsPairing cs left old → k + 1 ≡ length old
    → MatchBool found (IsFirstAt cs left (take k old) (get_or old k 0 + 1) new)
    (NoneAt cs left (take k old) (get_or old k 0 + 1))
    → MatchBool found (IsNext lex (IsPairing cs left) old new) (IsLast lex (IsPairing cs left) old)
next_pairing found cs left old new k q i h = made found h
  where
    same : (others : List ℕ) → IsPairing cs left others → length others ≡ length old
    same others p = sym (zip_length left others p.one_each) ∙ zip_length left old q.one_each

    made : (b : Bool)
        → MatchBool b (IsFirstAt cs left (take k old) (get_or old k 0 + 1) new)
        (NoneAt cs left (take k old) (get_or old k 0 + 1))
        → MatchBool b (IsNext lex (IsPairing cs left) old new) (IsLast lex (IsPairing cs left) old)
    made true h = record {
      item = h.pairing;
      above = less_from_place k old new i (same new h.pairing) h.from;
      none_between = λ others p l m. h.none_before others p (above_place k old others i (same others p) l) m;
    }
    made false h = λ others p l. h others p (above_place k old others i (same others p) l)

-- there is one pairing of no items
pub last_empty : (cs : List ℕ) (left : List (List ℕ)) (old : List ℕ) → length old ≡ 0 → length old ≡ length left
    → IsLast lex (IsPairing cs left) old
last_empty cs left old z s others p l = none old others z (sym (zip_length left others p.one_each) ∙ (sym s ∙ z)) l
  where
    none : (old others : List ℕ) → length old ≡ 0 → length others ≡ 0 → lex old others ≡ Less → ⊥
    none [] [] z y l = cc
    none [] (x ∷ xs) z y l = absurd (omega arith)
    none (o ∷ os) others z y l = absurd (omega arith)
