use Rattle.std.proofs.Common.{◌≡◌, ◌+◌, ◌-◌, ◌<◌, ◌≤◌, ◌++◌, take, drop, length, sym, subst, ◌∙◌, ap, arith, get_or}
use Rattle.std.specs.Prelude.{slice_set}
use Rattle.std.proofs.Common.{length-set, length-drop}
use Rattle.std.proofs.lemmas.List.{length-take-le}
use Rattle.std.proofs.lemmas.Option.{slice_get-get_or, slice_get_within}
use Rattle.mp_term.proofs.ListLaws.{all-append, all-index, all-set}
use Rattle.mp_subst.proofs.TrailLaws.{all-take}
use Rattle.mp_table.specs.Table.{HasRank, HasRanks, terms_at}
use Rattle.mp_ac.specs.Args as plain
use Rattle.mp_ac.specs.Candidates.{AreChoices}
use Rattle.mp_ac.specs.declared.pick.Pick.{Pick}
use Rattle.mp_ac.proofs.PicksLaws.{HavePicks, all-drop, lead-at, picked-more, picks-of}
use Rattle.mp_ac.proofs.begin.set_choices.Goals as goal

pub choices-requires-clause-number : goal.choices-requires-clause-number
choices-requires-clause-number c =
    lead-at c.args.plans.now c.args.numbers.now c.requires.numbers.0 c.loop-index.index c.requires.numbers.1
    c.loop-index-test.true

pub loop-index-preserved : goal.loop-index-preserved
loop-index-preserved c =
    let t = c.args.table.now in
    let us = terms_at t (plain.args_of c.args.node.args) in
    let room = c.loop-index.room in
    let i = c.loop-index.index in
    let n = get_or c.args.numbers.now i 0 in
    let from = c.in_ok-from.from in
    let end = c.in_ok-from.end in
    let ranks = c.choices.new.self.ranks.items in
    let part = take (end - from) (drop from ranks) in
    let own = c.index_mut-pick.result.now in
    let v : Pick = record {
      from = c.len-start.result;
      end = c.len-start.result + (end - from);
      at = c.len-start.result;
      rest = own.rest;
    } in
    let added : c.extend_from_slice.new.self.items ≡ room.choices.items ++ part =
    c.in_ok-extend_from_slice.ensures.items ∙ ap (λ rs. room.choices.items ++ take (end - from) (drop from rs))
    c.ranks.ensures in
    let inside : i < length room.picks.items =
    omega (arith, c.loop-index-test.true, c.loop-index.invariant.count, c.requires.children) in
    let wide : room.width ≤ own.rest.room = subst (λ (k : Pick). room.width ≤ k.rest.room)
    (sym c.index_mut-pick.ensures.value)
    (all-index (λ (k : Pick). room.width ≤ k.rest.room) room.picks.items i own c.loop-index.invariant.room.picks
    inside) in
    let start : c.len-start.result ≡ length room.choices.items = c.len-start.ensures ∙ room.choices.ok.0 in
    let count : length part ≡ end - from = omega (
      arith,
      c.in_ok-from.ensures.part,
      length-take-le (end - from) (drop from ranks),
      length-drop from ranks,
    ) in
    record {
      store = record { found = c.in_ok-from.ensures.found; rooms = c.loop-index.invariant.store.rooms };
      room = record {
        picks = all-set (λ (k : Pick). room.width ≤ k.rest.room) room.picks.items i v c.loop-index.invariant.room.picks
            wide;
        levels = c.loop-index.invariant.room.levels;
      };
      choices = subst (HasRanks t) (sym added) (all-append (HasRank t) room.choices.items part
          c.loop-index.invariant.choices (all-take (HasRank t) (end - from) (drop from ranks)
          (all-drop (HasRank t) from ranks c.in_ok-from.ensures.found.ranks)));
      count = length-set room.picks.items i v ∙ c.loop-index.invariant.count;
      width = c.loop-index.invariant.width;
      levels = c.loop-index.invariant.levels;
      grounds = c.loop-index.invariant.grounds;
      picks = subst (λ cs. HavePicks t us room.width c.args.plans.now c.args.numbers.now cs
          (slice_set room.picks.items i v) (i + 1)) (sym added)
          (picked-more t us room.width c.args.plans.now c.args.numbers.now room.choices.items part room.picks.items i n
          v c.loop-index.invariant.picks (slice_get-get_or c.args.numbers.now i 0 c.loop-index-test.true) start
          (omega (arith, start, count)) start wide
          (λ p next lead. subst (λ xs. AreChoices t p next xs part) (sym c.requires.node.terms)
          (c.in_ok-from.ensures.choices p next lead)));
    }

pub returns-clause-picks : goal.returns-clause-picks
returns-clause-picks c = λ ps leads.
    picks-of c.args.table.now (terms_at c.args.table.now (plain.args_of c.args.node.args)) c.loop-index.room.width
    c.args.plans.now c.loop-index.room.choices.items c.args.numbers.now ps c.loop-index.room.picks.items
    (λ j n p next k number lead found. c.loop-index.invariant.picks j
    (let within = slice_get_within c.args.numbers.now j n number in omega (arith, within)) n p next k number lead found)
    (omega (arith, c.loop-index.invariant.count, c.requires.children)) leads
