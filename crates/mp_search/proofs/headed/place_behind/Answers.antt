use Rattle.std.proofs.Common.{◌≡◌, ◌<◌, true, length, ap, sym, ◌∙◌, get_or, arith}
use Rattle.std.proofs.lemmas.List.{get_or_default}
use Rattle.std.proofs.lemmas.List.Sorted.{IsNonDecreasingBy-from_sort}
use Rattle.mp_table.specs.Table.{term_at}
use Rattle.mp_table.specs.declared.rank.Rank.{Rank}
use Rattle.mp_search.specs.Portion.{precedes}
use Rattle.mp_search.proofs.HeadedLaws.{precedes-past, before-earlier, behind-later}
use Rattle.mp_search.proofs.headed.place_behind.Goals as goal

pub loop-end-init : goal.loop-end-init
loop-end-init c = record {
  from = omega arith;
  within = c.requires.within;
  before = λ i d a b.
      precedes-past c.args.table.now c.args.group.now (term_at c.args.table.now (get_or c.args.list.now i d))
      (c.requires.before i d a b);
}

pub loop-end-preserved : goal.loop-end-preserved
loop-end-preserved c =
    let xs = c.args.list.now in
    let t = c.args.table.now in
    let k = c.args.group.now in
    let end = c.loop-end.end in
    let zero_rank : Rank = record { 0 = 0 } in
    let there : end < length xs = omega (arith, c.loop-end-test.true) in
    let found : precedes t k true (term_at t (get_or xs end zero_rank)) ≡ true =
    sym c.is_before.ensures ∙ c.if-not-is_before.false in
    record {
      from = omega (arith, c.loop-end.invariant.from);
      within = omega (arith, there);
      before = λ i d a b. before-earlier t c.requires.table k true xs c.requires.ranks
          (IsNonDecreasingBy-from_sort (λ r. r.0) xs c.requires.ascending) i end d (omega (arith, b)) there
          (ap (λ r. precedes t k true (term_at t r)) (sym (get_or_default xs end zero_rank d there)) ∙ found);
    }

pub returns-then-not-is_before-clause-behind : goal.returns-then-not-is_before-clause-behind
returns-then-not-is_before-clause-behind c = λ i d a b.
    let xs = c.args.list.now in
    let t = c.args.table.now in
    let zero_rank : Rank = record { 0 = 0 } in
    let end = c.loop-end.end in
    let there : end < length xs = omega (arith, a, b) in
    behind-later t c.requires.table c.args.group.now true xs c.requires.ranks
    (IsNonDecreasingBy-from_sort (λ r. r.0) xs c.requires.ascending) end i d a b
    (ap (λ r. precedes t c.args.group.now true (term_at t r)) (sym (get_or_default xs end zero_rank d there))
    ∙ (sym c.is_before.ensures ∙ c.if-not-is_before.true))
