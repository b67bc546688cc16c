-- The value of the list of solutions is that list, and the steps of an `Equations` walk through it.
use Rattle.std.proofs.Common.{◌≡◌, ℕ, ◌<◌, ◌+◌, List, Bool, true, false, sym, ◌∙◌, length, arith, subst, replicate}
use Rattle.std.specs.Prelude.{◌&&◌, ◌==◌, MatchBool, All}
use Rattle.std.specs.declared.cmp.Ordering.TheVariants.{Less}
use Rattle.std.proofs.lemmas.Bool.{and_parts, and_from}
use Rattle.std.proofs.lemmas.Cmp.{nat_list_cmp_total}
use Rattle.mp_term.specs.OrderLaws.{nats_same}
use Rattle.mp_choice.specs.Listed.{number_lists, IsFirst, HasNone, IsNext, IsLast}
use Rattle.mp_choice.specs.Equations.{weighed, IsSolution, AreSolutions}
use Rattle.mp_choice.specs.EquationSteps.{IsLastLight, IsNextLight, IsSolutionFrom}
use Rattle.mp_choice.specs.EquationList.{solutions_of}
use Rattle.mp_choice.proofs.Lexicographic.{lex, less_not_less_trans}
use Rattle.mp_choice.proofs.Listed.{listing-distinct}
use Rattle.mp_choice.proofs.Tests.{eq_test, eq_from}
use Rattle.mp_choice.proofs.EquationLaws.{none_below_zeros}
use Rattle.mp_choice.proofs.EquationLoops.{in-light}

pub solutions_of-listing : (cs : List ℕ) (total : ℕ) → All (λ c. 0 < c) cs
    → AreSolutions cs total (solutions_of cs total)
unfolding solutions_of
solutions_of-listing cs total p =
    listing-distinct lex nat_list_cmp_total (IsSolution cs total)
    (λ ns. (length ns == length cs) && (weighed cs ns == total)) (number_lists total (length cs)) nats_same
    (λ ns s. and_from _ _ (eq_test (length ns) (length cs) s.one_each) (eq_test (weighed cs ns) total s.adds_up))
    (λ ns t. let r = and_parts (length ns == length cs) (weighed cs ns == total) t in
    record { one_each = eq_from (length ns) (length cs) r.0; adds_up = eq_from (weighed cs ns) total r.1 })
    (λ ns s. in-light cs ns total s.one_each p (omega (arith, s.adds_up)))

-- the list by the coefficients that a generator holds
pub listing_held : (cs held : List ℕ) (total : ℕ) → All (λ c. 0 < c) cs → held ≡ cs
    → AreSolutions cs total (solutions_of held total)
listing_held cs held total p e = subst (λ ds. AreSolutions cs total (solutions_of ds total)) (sym e)
    (solutions_of-listing cs total p)

-- the first solution from zeros on is the first
pub first_solution : (found : Bool) (cs : List ℕ) (total k : ℕ) (zeros new : List ℕ) → k ≡ length cs
    → zeros ≡ replicate k 0
    → MatchBool found (IsFirst lex (IsSolutionFrom cs total zeros) new) (HasNone (IsSolutionFrom cs total zeros))
    → MatchBool found (IsFirst lex (IsSolution cs total) new) (HasNone (IsSolution cs total))
first_solution found cs total k zeros new is z h = by_answer found h
  where
    from_zeros : (others : List ℕ) → IsSolution cs total others → IsSolutionFrom cs total zeros others
    from_zeros others s = record {
      solution = s;
      from = λ l. none_below_zeros k others (s.one_each ∙ sym is) (subst (λ w. lex others w ≡ Less) z l);
    }

    by_answer : (found : Bool)
        → MatchBool found (IsFirst lex (IsSolutionFrom cs total zeros) new) (HasNone (IsSolutionFrom cs total zeros))
        → MatchBool found (IsFirst lex (IsSolution cs total) new) (HasNone (IsSolution cs total))
    by_answer true h = record {
      item = h.item.solution;
      none_below = λ others s l. h.none_below others (from_zeros others s) l;
    }
    by_answer false h = λ others s. h others (from_zeros others s)

-- the first solution from the next light list on is the next
pub next_solution : (found : Bool) (cs : List ℕ) (total rest : ℕ) (old start new : List ℕ) → IsSolution cs total old
    → IsNextLight cs (weighed cs old + 0) old start rest
    → MatchBool found (IsFirst lex (IsSolutionFrom cs total start) new) (HasNone (IsSolutionFrom cs total start))
    → MatchBool found (IsNext lex (IsSolution cs total) old new) (IsLast lex (IsSolution cs total) old)
next_solution found cs total rest old start new s n h = by_answer found h
  where
    from_start : (others : List ℕ) → IsSolution cs total others → lex old others ≡ Less
        → IsSolutionFrom cs total start others
    from_start others o l = record {
      solution = o;
      from = λ m. n.next.none_between others
          (record { one_each = o.one_each; at_most = omega (arith, o.adds_up, s.adds_up) }) l m;
    }

    by_answer : (found : Bool)
        → MatchBool found (IsFirst lex (IsSolutionFrom cs total start) new) (HasNone (IsSolutionFrom cs total start))
        → MatchBool found (IsNext lex (IsSolution cs total) old new) (IsLast lex (IsSolution cs total) old)
    by_answer true h = record {
      item = h.item.solution;
      above = less_not_less_trans old start new n.next.above h.item.from;
      none_between = λ others o l m. h.none_below others (from_start others o l) m;
    }
    by_answer false h = λ others o l. h others (from_start others o l)

-- where no light list comes later, no solution does
pub last_solution : (cs : List ℕ) (total : ℕ) (old : List ℕ) → IsSolution cs total old
    → IsLastLight cs (weighed cs old + 0) old → IsLast lex (IsSolution cs total) old
last_solution cs total old s h others o = h others
    (record { one_each = o.one_each; at_most = omega (arith, o.adds_up, s.adds_up) })
