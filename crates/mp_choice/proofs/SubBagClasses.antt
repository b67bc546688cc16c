-- The sub-multisets of counts, as lists of class numbers, are the sublists of the class numbers of the counts.
use Rattle.std.proofs.Common.{◌≡◌, ℕ, zero, suc, ◌≤◌, ◌<◌, ◌+◌, List, [], ◌∷◌, ◌++◌, map, true, false, refl, ap, sym}
use Rattle.std.proofs.Common.{◌∙◌, subst, replicate, arith}
use Rattle.std.specs.Prelude.{if◌then◌else◌}
use Rattle.std.specs.declared.cmp.Ordering.TheVariants.{Less}
use Rattle.std.specs.Ordering.{nat_cmp}
use Rattle.std.specs.Cmp.{IsTotalOrder}
use Rattle.std.specs.List.{AllByRecursion}
use Rattle.std.specs.List.Sorted.{IsStrictlySortedBy}
use Rattle.std.proofs.lemmas.Cmp.{nat_cmp_total, on_total}
use Rattle.mp_term.specs.Listing.{IsListing}
use Rattle.mp_term.specs.Order.{shortlex}
use Rattle.mp_term.specs.OrderLaws.{nat_same, shortlex_total}
use Rattle.mp_term.proofs.ListingLaws.{unique_listing, contains-from_in, in-from_contains}
use Rattle.mp_term.specs.Search.{In}
use Rattle.mp_term.specs.Pieces.{same, is_sublist, sub_bags}
use Rattle.mp_term.proofs.SearchLaws.{in-map, from_in-map}
use Rattle.mp_term.proofs.PiecesLaws.{same-sound, same-itself, pieces-exact, pieces-ascending}
use Rattle.mp_choice.specs.SubBags.{classes_from, classes, bag_order, IsSubBag, AreSubBags}

pub bag_order_total : IsTotalOrder bag_order
bag_order_total = on_total classes (shortlex_total nat_cmp_total)

-- a number is not the same as a lesser one
same-less : (k x : ℕ) → k < x → same nat_cmp k x ≡ false
same-less k x h =
    elim (same nat_cmp k x) as (λ b. same nat_cmp k x ≡ b → same nat_cmp k x ≡ false) [
      | true ↦ λ e. absurd (let q : k ≡ x = same-sound nat_cmp nat_cmp_total nat_same k x e in omega arith)
      | false ↦ λ e. e
    ] refl

all_above-replicate : (n k below : ℕ) (xs : List ℕ) → below < k → AllByRecursion (λ x. below < x) xs
    → AllByRecursion (λ x. below < x) (replicate n k ++ xs)
all_above-replicate zero k below xs h i = i
all_above-replicate (suc n) k below xs h i = (h, all_above-replicate n k below xs h i)

all_above-classes : (k below : ℕ) (ns : List ℕ) → below < k → AllByRecursion (λ x. below < x) (classes_from k ns)
all_above-classes k below [] h = tt
all_above-classes k below (n ∷ ns) h = all_above-replicate n k below (classes_from (k + 1) ns) h
    (all_above-classes (k + 1) below ns (omega arith))

-- numbers above k stand behind those that are k
sublist-behind : (k n : ℕ) (xs ys : List ℕ) → AllByRecursion (λ x. k < x) xs → is_sublist nat_cmp xs ys ≡ true
    → is_sublist nat_cmp xs (replicate n k ++ ys) ≡ true
sublist-behind k zero xs ys h i = i
sublist-behind k (suc n) [] ys h i = refl
sublist-behind k (suc n) (x ∷ xs) ys h i = rw (same-less k x h.0) (sublist-behind k n (x ∷ xs) ys h i)

sublist-replicate : (k n m : ℕ) (xs ys : List ℕ) → n ≤ m → AllByRecursion (λ x. k < x) xs
    → is_sublist nat_cmp xs ys ≡ true → is_sublist nat_cmp (replicate n k ++ xs) (replicate m k ++ ys) ≡ true
sublist-replicate k zero m xs ys l h i = sublist-behind k m xs ys h i
sublist-replicate k (suc n) zero xs ys l h i = absurd (omega arith)
sublist-replicate k (suc n) (suc m) xs ys l h i =
    rw (same-itself nat_cmp nat_cmp_total nat_same k) (sublist-replicate k n m xs ys (omega arith) h i)

-- the class numbers of a sub-multiset are a sublist
sublist-classes : (k : ℕ) (cs ns : List ℕ) → IsSubBag cs ns
    → is_sublist nat_cmp (classes_from k ns) (classes_from k cs) ≡ true
sublist-classes k [] [] w = refl
sublist-classes k [] (n ∷ ns) w = absurd w
sublist-classes k (c ∷ cs) [] w = absurd w
sublist-classes k (c ∷ cs) (n ∷ ns) w = sublist-replicate k n c (classes_from (k + 1) ns) (classes_from (k + 1) cs) w.0
    (all_above-classes (k + 1) k ns (omega arith)) (sublist-classes (k + 1) cs ns w.1)

-- a sublist begins with as many k as it takes, and goes on behind them
record Front (k most : ℕ) (l ys : List ℕ) : Type 0 where
  count : ℕ
  rest : List ℕ
  at_most : count ≤ most
  is : l ≡ replicate count k ++ rest
  behind : is_sublist nat_cmp rest ys ≡ true

front-sublist : (k c : ℕ) (l ys : List ℕ) → is_sublist nat_cmp l (replicate c k ++ ys) ≡ true → Front k c l ys
front-sublist k zero l ys h = record { count = 0; rest = l; at_most = omega arith; is = refl; behind = h }
front-sublist k (suc c) [] ys h = record { count = 0; rest = []; at_most = omega arith; is = refl; behind = refl }
front-sublist k (suc c) (e ∷ l) ys h =
    elim (same nat_cmp k e) as (λ b. same nat_cmp k e ≡ b
    → (if b then is_sublist nat_cmp l (replicate c k ++ ys) else is_sublist nat_cmp (e ∷ l) (replicate c k ++ ys))
    ≡ true → Front k (suc c) (e ∷ l) ys) [
      | true ↦ λ q i.
          let f = front-sublist k c l ys i in
          let s : k ≡ e = same-sound nat_cmp nat_cmp_total nat_same k e q in
          record {
            count = suc f.count;
            rest = f.rest;
            at_most = omega (arith, f.at_most);
            is = ap (λ x. x ∷ l) (sym s) ∙ ap (λ xs. k ∷ xs) f.is;
            behind = f.behind;
          }
      | false ↦ λ q i.
          let f = front-sublist k c (e ∷ l) ys i in
          record { count = f.count; rest = f.rest; at_most = omega (arith, f.at_most); is = f.is; behind = f.behind }
    ] refl h

-- a sublist of the class numbers is that of a sub-multiset
classes-sublist : (k : ℕ) (cs l : List ℕ) → is_sublist nat_cmp l (classes_from k cs) ≡ true
    → (ns : List ℕ) × IsSubBag cs ns × (l ≡ classes_from k ns)
classes-sublist k [] [] h = ([], tt, refl)
classes-sublist k [] (e ∷ l) h = cc
classes-sublist k (c ∷ cs) l h =
    let f = front-sublist k c l (classes_from (k + 1) cs) h in
    let r = classes-sublist (k + 1) cs f.rest f.behind in
    (f.count ∷ r.0, (f.at_most, r.1), f.is ∙ ap (λ xs. replicate f.count k ++ xs) r.2)

-- what ascends by the order of the bags ascends by that of their class numbers
ascending-classes : (bags : List (List ℕ)) → IsStrictlySortedBy bag_order bags
    → IsStrictlySortedBy (shortlex nat_cmp) (map classes bags)
unfolding IsStrictlySortedBy
ascending-classes [] h = tt
ascending-classes (b ∷ bs) h = (later bs h.0, ascending-classes bs h.1)
  where
    later : (bs : List (List ℕ)) → AllByRecursion (λ c. bag_order b c ≡ Less) bs
        → AllByRecursion (λ l. shortlex nat_cmp (classes b) l ≡ Less) (map classes bs)
    later [] h = tt
    later (c ∷ cs) h = (h.0, later cs h.1)

-- the listing of the sub-multisets, as class numbers
listing-classes : (cs : List ℕ) (bags : List (List ℕ)) → AreSubBags cs bags
    → IsListing (shortlex nat_cmp) (λ l. is_sublist nat_cmp l (classes cs) ≡ true) (map classes bags)
listing-classes cs bags h = record {
  exactly = λ l. (
    λ c.
        let r = from_in-map classes l bags (in-from_contains l (map classes bags) c) in
        subst (λ x. is_sublist nat_cmp x (classes cs) ≡ true) (sym r.1)
        (sublist-classes 0 cs r.0 ((h.exactly r.0).0 (contains-from_in r.0 bags r.2))),
    λ s.
        let r = classes-sublist 0 cs l s in
        contains-from_in l (map classes bags)
        (subst (λ x. In x (map classes bags)) (sym r.2)
        (in-map classes r.0 bags (in-from_contains r.0 bags ((h.exactly r.0).1 r.1)))),
  );
  ascending = ascending-classes bags h.ascending;
}

-- they are the sub-multisets of the theory
pub map-classes : (cs : List ℕ) (bags : List (List ℕ)) → AreSubBags cs bags
    → map classes bags ≡ sub_bags nat_cmp (classes cs)
map-classes cs bags h = unique_listing (shortlex nat_cmp) (shortlex_total nat_cmp_total)
    (λ l. is_sublist nat_cmp l (classes cs) ≡ true) (map classes bags) (sub_bags nat_cmp (classes cs))
    (listing-classes cs bags h)
    (record {
      exactly = λ l. (
        λ c. (pieces-exact nat_cmp nat_cmp_total nat_same true l (classes cs)).0
            (in-from_contains l (sub_bags nat_cmp (classes cs)) c),
        λ s. contains-from_in l (sub_bags nat_cmp (classes cs))
            ((pieces-exact nat_cmp nat_cmp_total nat_same true l (classes cs)).1 s),
      );
      ascending = pieces-ascending nat_cmp nat_cmp_total nat_same true (classes cs);
    })
