use Rattle.std.proofs.Common.{◌≡◌, ◌+◌, ◌-◌, suc, [], take, drop, arith, inl, inr, ap, sym, subst, ◌∙◌}
use Rattle.mp_table.specs.Table.{term_at}
use Rattle.mp_ac.specs.Begin.{IsBlocked}
use Rattle.mp_ac.specs.Candidates.{given_terms}
use Rattle.mp_ac.proofs.PicksLaws.{blocked-at, lead-at, none-left}
use Rattle.mp_ac.proofs.begin.ways.Goals as goal

pub choices-requires-clause-number : goal.choices-requires-clause-number
choices-requires-clause-number c =
    lead-at c.args.plans.now c.args.numbers.now c.requires.numbers.0 c.loop-number.number-index c.requires.numbers.1
    c.loop-number-test.true

pub returns-then-ways-eq0-clause-none : goal.returns-then-ways-eq0-clause-none
returns-then-ways-eq0-clause-none c = λ none ps leads.
    let us = given_terms (term_at c.args.table.now c.args.node.node) c.args.node.alone in
    let from = c.in_ok-from.from in
    let end = c.in_ok-from.end in
    let ranks = c.choices.new.self.ranks.items in
    let part = take (end - from) (drop from ranks) in
    let empty : part ≡ [] = ap (λ k. take k (drop from ranks))
    (none-left c.loop-number.ways (end - from) 18446744073709551615 c.loop-number.invariant.some (omega arith)
    (sym c.saturating_mul-ways.ensures ∙ none)) in
    c.loop-number.invariant.blocked ps leads (blocked-at c.args.table.now us c.args.plans.now c.args.numbers.now ps
    c.loop-number.number-index part leads c.loop-number-test.true c.in_ok-from.ensures.choices (inl empty))

pub returns-then-ways-eq0-clause-store : goal.returns-then-ways-eq0-clause-store
returns-then-ways-eq0-clause-store c =
    record { found = c.in_ok-from.ensures.found; rooms = c.loop-number.invariant.store.rooms }

pub loop-number-preserved : goal.loop-number-preserved
loop-number-preserved c =
    let us = given_terms (term_at c.args.table.now c.args.node.node) c.args.node.alone in
    let from = c.in_ok-from.from in
    let part = take (c.in_ok-from.end - from) (drop from c.choices.new.self.ranks.items) in
    let next : c.loop-number.number-index + 1 ≡ suc c.loop-number.number-index = omega arith in
    record {
      store = record { found = c.in_ok-from.ensures.found; rooms = c.loop-number.invariant.store.rooms };
      some = omega (arith, c.if-ways-eq0.false);
      blocked = λ ps leads behind. c.loop-number.invariant.blocked ps leads
          (blocked-at c.args.table.now us c.args.plans.now c.args.numbers.now ps c.loop-number.number-index part leads
          c.loop-number-test.true c.in_ok-from.ensures.choices
          (inr (subst (λ k. IsBlocked c.args.table.now us (drop k ps)) next behind)));
    }
