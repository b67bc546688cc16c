-- The value of the list of splits is that list, and the steps of a `Splits` walk through it.
use Rattle.std.proofs.Common.{◌≡◌, ℕ, ◌≤◌, List, [], ◌∷◌, Bool, true, false, sym, ◌∙◌, sum, length, arith, Some, None}
use Rattle.std.proofs.Common.{Option, subst, refl}
use Rattle.std.specs.Prelude.{◌&&◌, ◌==◌, nat_le, IfSome, MatchBool}
use Rattle.std.specs.List.{AllZip}
use Rattle.std.proofs.lemmas.Cmp.{nat_list_cmp_total}
use Rattle.std.proofs.lemmas.Slice.Zip.{AllZip-long}
use Rattle.std.proofs.lemmas.Bool.{and_parts, and_from}
use Rattle.mp_term.specs.OrderLaws.{nats_same}
use Rattle.mp_choice.specs.declared.splits.Part.{Part}
use Rattle.mp_choice.specs.Listed.{number_lists, IsNext, IsLast}
use Rattle.mp_choice.specs.Splits.{Allows, IsSplit, AreSplits}
use Rattle.mp_choice.specs.SplitSteps.{IsNextOfSum, IsLastOfSum}
use Rattle.mp_choice.specs.SplitList.{at_most, are_within, splits_of}
use Rattle.mp_choice.proofs.Lexicographic.{lex, each-sum}
use Rattle.mp_choice.proofs.Listed.{in-number_lists, listing-distinct}
use Rattle.mp_choice.proofs.Tests.{nat_le-from, le_from-nat_le, eq_test, eq_from}

most_test : (o : Option ℕ) (n : ℕ) → IfSome o (λ most. n ≤ most) → at_most o n ≡ true
most_test None n h = refl
most_test (Some m) n h = nat_le-from n m h

most_from : (o : Option ℕ) (n : ℕ) → at_most o n ≡ true → IfSome o (λ most. n ≤ most)
most_from None n h = tt
most_from (Some m) n h = le_from-nat_le n m h

within_test : (ps : List Part) (ns : List ℕ) → AllZip Allows ps ns → are_within ps ns ≡ true
within_test [] [] w = refl
within_test [] (n ∷ ns) w = absurd w
within_test (p ∷ ps) [] w = absurd w
within_test (p ∷ ps) (n ∷ ns) w = and_from _ _
    (and_from _ _ (nat_le-from p.least n w.0.least) (most_test p.most n w.0.most)) (within_test ps ns w.1)

within_from : (ps : List Part) (ns : List ℕ) → are_within ps ns ≡ true → AllZip Allows ps ns
within_from [] [] h = tt
within_from [] (n ∷ ns) h = cc
within_from (p ∷ ps) [] h = cc
within_from (p ∷ ps) (n ∷ ns) h =
    let a = and_parts (nat_le p.least n && at_most p.most n) (are_within ps ns) h in
    let b = and_parts (nat_le p.least n) (at_most p.most n) a.0 in
    (record { least = le_from-nat_le p.least n b.0; most = most_from p.most n b.1 }, within_from ps ns a.1)

pub splits_of-listing : (total : ℕ) (ps : List Part) → AreSplits total ps (splits_of total ps)
unfolding splits_of
splits_of-listing total ps =
    listing-distinct lex nat_list_cmp_total (IsSplit total ps) (λ ns. are_within ps ns && (sum ns == total))
    (number_lists total (length ps)) nats_same
    (λ ns s. and_from _ _ (within_test ps ns s.within) (eq_test (sum ns) total s.adds_up))
    (λ ns t. let r = and_parts (are_within ps ns) (sum ns == total) t in
    record { within = within_from ps ns r.0; adds_up = eq_from (sum ns) total r.1 })
    (λ ns s. in-number_lists total (length ps) ns (AllZip-long Allows ps ns s.within)
    (each-sum ns total (omega (arith, s.adds_up))))

-- the list by the parts that a generator holds
pub listing_held : (total : ℕ) (ps held : List Part) → held ≡ ps → AreSplits total ps (splits_of total held)
listing_held total ps held e = subst (λ qs. AreSplits total ps (splits_of total qs)) (sym e)
    (splits_of-listing total ps)

-- the next lengths with the same sum are the next split
pub next_split : (found : Bool) (total : ℕ) (ps : List Part) (old new : List ℕ) → IsSplit total ps old
    → MatchBool found (IsNextOfSum ps old new) (IsLastOfSum ps old)
    → MatchBool found (IsNext lex (IsSplit total ps) old new) (IsLast lex (IsSplit total ps) old)
next_split true total ps old new s h = record {
  item = record { within = h.within; adds_up = h.adds_up ∙ s.adds_up };
  above = h.above;
  none_between = λ others o l m. h.none_between others o.within (o.adds_up ∙ sym s.adds_up) l m;
}
next_split false total ps old new s h = λ others o l. h others o.within (o.adds_up ∙ sym s.adds_up) l
