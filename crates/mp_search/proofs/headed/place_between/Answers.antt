use Rattle.std.proofs.Common.{◌≡◌, ◌+◌, ◌-◌, ◌/◌, ◌<◌, true, false, length, ap, sym, ◌∙◌, get_or, arith}
use Rattle.std.proofs.lemmas.List.{get_or_default}
use Rattle.std.proofs.lemmas.List.Sorted.{IsNonDecreasingBy-from_sort}
use Rattle.std.proofs.lemmas.Bool.{false_from_ne_true}
use Rattle.mp_table.specs.Table.{term_at}
use Rattle.mp_table.specs.declared.rank.Rank.{Rank}
use Rattle.mp_search.specs.Portion.{precedes}
use Rattle.mp_search.proofs.HeadedLaws.{before-earlier}
use Rattle.mp_search.proofs.headed.place_between.Goals as goal

pub loop-low-preserved-then-is_before : goal.loop-low-preserved-then-is_before
loop-low-preserved-then-is_before c =
    let xs = c.args.list.now in
    let t = c.args.table.now in
    let k = c.args.group.now in
    let past = c.args.past in
    let before = c.loop-low.invariant in
    let middle = c.loop-low.low + (c.loop-low.high - c.loop-low.low) / 2 in
    let zero_rank : Rank = record { 0 = 0 } in
    let there : middle < length xs = omega (arith, before.order, before.within, c.loop-low-test.true) in
    let found : precedes t k past (term_at t (get_or xs middle zero_rank)) ≡ true =
    sym c.is_before.ensures ∙ c.if-is_before.true in
    record {
      from = omega (arith, before.from, before.order);
      order = omega (arith, before.order, c.loop-low-test.true);
      within = before.within;
      before = λ i d a b. before-earlier t c.requires.table k past xs c.requires.ranks
          (IsNonDecreasingBy-from_sort (λ r. r.0) xs c.requires.ascending) i middle d (omega (arith, b)) there
          (ap (λ r. precedes t k past (term_at t r)) (sym (get_or_default xs middle zero_rank d there)) ∙ found);
      behind = before.behind;
    }

pub loop-low-init : goal.loop-low-init
loop-low-init c = record {
  from = omega arith;
  order = c.requires.order;
  within = c.requires.within;
  before = c.requires.before;
  behind = c.requires.behind;
}

pub loop-low-preserved : goal.loop-low-preserved
loop-low-preserved c =
    let xs = c.args.list.now in
    let t = c.args.table.now in
    let k = c.args.group.now in
    let past = c.args.past in
    let before = c.loop-low.invariant in
    let middle = c.loop-low.low + (c.loop-low.high - c.loop-low.low) / 2 in
    let zero_rank : Rank = record { 0 = 0 } in
    let there : middle < length xs = omega (arith, before.order, before.within, c.loop-low-test.true) in
    let found : precedes t k past (term_at t (get_or xs middle zero_rank)) ≡ false =
    sym c.is_before.ensures ∙ c.if-is_before.false in
    record {
      from = before.from;
      order = omega (arith, before.order);
      within = omega (arith, there);
      before = before.before;
      behind = λ i d a b. false_from_ne_true (precedes t k past (term_at t (get_or xs i d)))
          (λ e.
          let earlier = before-earlier t c.requires.table k past xs c.requires.ranks
          (IsNonDecreasingBy-from_sort (λ r. r.0) xs c.requires.ascending) middle i d a b e in
          let wrong : true ≡ false = sym earlier
          ∙ (ap (λ r. precedes t k past (term_at t r)) (sym (get_or_default xs middle zero_rank d there))
          ∙ found) in cc);
    }
