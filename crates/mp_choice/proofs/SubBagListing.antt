-- The value of the list of sub-multisets is that list, and the steps of a `SubBags` walk through it.
use Rattle.std.proofs.Common.{◌≡◌, ℕ, ◌<◌, ◌+◌, List, [], ◌∷◌, true, refl, sym, ◌∙◌, ◌⊎◌, inl, inr, sum, length, arith}
use Rattle.std.proofs.Common.{subst}
use Rattle.std.specs.Prelude.{nat_le}
use Rattle.std.specs.declared.cmp.Ordering.TheVariants.{Less}
use Rattle.std.proofs.lemmas.Bool.{and_parts, and_from}
use Rattle.mp_term.specs.Listing.{IsListing}
use Rattle.mp_term.proofs.ListingLaws.{contains-from_in}
use Rattle.mp_term.proofs.SearchLaws.{all-from_in}
use Rattle.mp_choice.specs.Listed.{number_lists, IsFirst, IsNext, IsLast}
use Rattle.mp_choice.specs.SubBags.{IsSubBag, AreSubBags}
use Rattle.mp_choice.specs.SubBagSteps.{IsFilled, IsLastOfSize, IsNextOfSize}
use Rattle.mp_choice.specs.SubBagList.{counts_order, all_at_most, sub_bags_of}
use Rattle.mp_choice.proofs.Lexicographic.{lex, each-sum, less_then}
use Rattle.mp_choice.proofs.Listed.{in-number_lists, listing-distinct}
use Rattle.mp_choice.proofs.Tests.{nat_le-from, le_from-nat_le}
use Rattle.mp_choice.proofs.SubBagLaws.{bag_le, length-sub_bag}
use Rattle.mp_choice.proofs.SubBagOrder.{counts_order_total, counts_order_same, order_first, order_second, ascends_too}

at_most_test : (cs ns : List ℕ) → IsSubBag cs ns → all_at_most cs ns ≡ true
at_most_test [] [] w = refl
at_most_test [] (n ∷ ns) w = absurd w
at_most_test (c ∷ cs) [] w = absurd w
at_most_test (c ∷ cs) (n ∷ ns) w = and_from _ _ (nat_le-from n c w.0) (at_most_test cs ns w.1)

at_most_from : (cs ns : List ℕ) → all_at_most cs ns ≡ true → IsSubBag cs ns
at_most_from [] [] h = tt
at_most_from [] (n ∷ ns) h = cc
at_most_from (c ∷ cs) [] h = cc
at_most_from (c ∷ cs) (n ∷ ns) h = let r = and_parts (nat_le n c) (all_at_most cs ns) h in
    (le_from-nat_le n c r.0, at_most_from cs ns r.1)

-- in the order of the counts
pub sub_bags_of-listing : (cs : List ℕ) → IsListing counts_order (IsSubBag cs) (sub_bags_of cs)
unfolding sub_bags_of
sub_bags_of-listing cs =
    listing-distinct counts_order counts_order_total (IsSubBag cs) (all_at_most cs)
    (number_lists (sum cs) (length cs)) counts_order_same
    (λ ns w. at_most_test cs ns w) (λ ns t. at_most_from cs ns t)
    (λ ns w. in-number_lists (sum cs) (length cs) ns (length-sub_bag cs ns w) (each-sum ns (sum cs) (bag_le cs ns w)))

-- and by shortlex of the class numbers
are_sub_bags : (cs : List ℕ) → AreSubBags cs (sub_bags_of cs)
are_sub_bags cs =
    let l = sub_bags_of-listing cs in
    record {
      exactly = l.exactly;
      ascending = ascends_too (length cs) (sub_bags_of cs)
          (all-from_in (λ x. length x ≡ length cs) (sub_bags_of cs)
          (λ x i. length-sub_bag cs x ((l.exactly x).0 (contains-from_in x (sub_bags_of cs) i))))
          l.ascending;
    }

-- the list by the counts that a generator holds
pub listing_held : (cs held : List ℕ) → held ≡ cs → AreSubBags cs (sub_bags_of held)
listing_held cs held e = subst (λ qs. AreSubBags cs (sub_bags_of qs)) (sym e) (are_sub_bags cs)

-- no items are the first sub-multiset
pub first_bag : (cs new : List ℕ) → IsFilled cs new 0 → IsFirst counts_order (IsSubBag cs) new
first_bag cs new h = record {
  item = h.within;
  none_below = λ others w l. none others w (less_then (sum others) (sum new) (lex new others) l);
}
  where
    none : (others : List ℕ) → IsSubBag cs others
        → (sum others < sum new) ⊎ ((sum others ≡ sum new) × (lex new others ≡ Less)) → ⊥
    none others w (inl p) = omega (arith, h.adds_up)
    none others w (inr p) = h.greatest others w (p.0 ∙ h.adds_up) p.1

-- the next of the same size is the next
pub next-same_size : (cs old new : List ℕ) → IsNextOfSize cs old new → IsNext counts_order (IsSubBag cs) old new
next-same_size cs old new h = record {
  item = h.within;
  above = order_second (sum old) (sum new) (lex new old) (sym h.adds_up) h.below;
  none_between = λ others w l m. none others w (less_then (sum old) (sum others) (lex others old) l)
      (less_then (sum others) (sum new) (lex new others) m);
}
  where
    none : (others : List ℕ) → IsSubBag cs others
        → (sum old < sum others) ⊎ ((sum old ≡ sum others) × (lex others old ≡ Less))
        → (sum others < sum new) ⊎ ((sum others ≡ sum new) × (lex new others ≡ Less)) → ⊥
    none others w (inl p) (inl q) = omega (arith, h.adds_up)
    none others w (inl p) (inr q) = omega (arith, h.adds_up, q.0)
    none others w (inr p) (inl q) = omega (arith, h.adds_up, p.0)
    none others w (inr p) (inr q) = h.none_between others w (sym p.0) p.1 q.1

-- after the last of a size comes the first of the next size
pub next-larger : (cs old new : List ℕ) → IsLastOfSize cs old → IsFilled cs new (sum old + 1)
    → IsNext counts_order (IsSubBag cs) old new
next-larger cs old new last h = record {
  item = h.within;
  above = order_first (sum old) (sum new) (lex new old) (omega (arith, h.adds_up));
  none_between = λ others w l m. none others w (less_then (sum old) (sum others) (lex others old) l)
      (less_then (sum others) (sum new) (lex new others) m);
}
  where
    none : (others : List ℕ) → IsSubBag cs others
        → (sum old < sum others) ⊎ ((sum old ≡ sum others) × (lex others old ≡ Less))
        → (sum others < sum new) ⊎ ((sum others ≡ sum new) × (lex new others ≡ Less)) → ⊥
    none others w (inl p) (inl q) = omega (arith, h.adds_up)
    none others w (inl p) (inr q) = h.greatest others w (q.0 ∙ h.adds_up) q.1
    none others w (inr p) q = last others w (sym p.0) p.1

-- the whole multiset is the last
pub last-whole : (cs old : List ℕ) → IsLastOfSize cs old → sum old ≡ sum cs → IsLast counts_order (IsSubBag cs) old
last-whole cs old last e others w l = none (less_then (sum old) (sum others) (lex others old) l)
  where
    none : (sum old < sum others) ⊎ ((sum old ≡ sum others) × (lex others old ≡ Less)) → ⊥
    none (inl p) = omega (arith, bag_le cs others w)
    none (inr p) = last others w (sym p.0) p.1
