use Rattle.std.proofs.Common.{◌<◌, ◌≤◌, ◌∙◌, [], false, ap, sym, subst, map, length, take, ◌+◌}
use Rattle.std.specs.Prelude.{slice_index_or}
use Rattle.std.proofs.lemmas.List.{map-id, take_all}
use Rattle.mp_table.specs.Table.{HasRanks}
use Rattle.mp_search.specs.Levels.{take_of}
use Rattle.mp_cursor.specs.Kept.{HaveRoom}
use Rattle.mp_cursor.proofs.SliceLaws.{taken-step, set-same}
use Rattle.mp_cursor.proofs.TakesLaws.{room-at, set-levels, same-count}
use Rattle.mp_cursor.proofs.takes.put_takes.Goals as goal
use Rattle.mp_term.proofs.ListLaws.{all-index}

pub put_take-requires : goal.put_take-requires
put_take-requires c =
    let es = c.args.entries.now in
    let within : c.loop-index.index < length es = subst (λ n. c.loop-index.index < n)
    (same-count (λ l. l.take.room) c.args.levels.now es c.requires) c.loop-index-test.true in
    let here : c.loop-index.index < length c.loop-index.levels = subst (λ n. c.loop-index.index < n)
    (sym c.loop-index.auto.levels) c.loop-index-test.true in
    record {
      within = within;
      room = room-at (λ l. l.take.room) (λ e. e) c.loop-index.levels es c.loop-index.index
          c.index-levels-index.result ([], false)
          (subst (λ ns. HaveRoom ns (map (λ e. e) es)) (sym c.loop-index.invariant.rooms)
          (subst (HaveRoom (map (λ l. l.take.room) c.args.levels.now)) (sym (map-id es)) c.requires)) here;
    }

pub loop-index-preserved : goal.loop-index-preserved
loop-index-preserved c =
    let es = c.args.entries.now in
    let i = c.loop-index.index in
    let within : i < length es = subst (λ n. i < n)
    (same-count (λ l. l.take.room) c.args.levels.now es c.requires) c.loop-index-test.true in
    let here : i < length c.loop-index.levels = subst (λ n. i < n) (sym c.loop-index.auto.levels)
    c.loop-index-test.true in
    record {
      takes = taken-step take_of (λ e. e) c.loop-index.levels es i c.put_take.new.level ([], false) here within
          (c.loop-index.invariant.takes ∙ sym (map-id (take i es))) c.put_take.ensures.take
          ∙ map-id (take (c.loop-index.index + 1) es);
      rooms = set-same (λ l. l.take.room) c.loop-index.levels i c.put_take.new.level
          c.index-levels-index.result here (ap (λ r. r.0) c.put_take.ensures.rooms) ∙ c.loop-index.invariant.rooms;
      levels = λ table width a h. set-levels table width c.loop-index.levels i
          c.index-levels-index.result c.put_take.new.level (slice_index_or es i ([], false)).0
          (slice_index_or es i ([], false)).1 here (c.loop-index.invariant.levels table width a h)
          (all-index (λ e. HasRanks table e.0) es i ([], false) h within) c.put_take.ensures.take
          c.put_take.ensures.draws c.put_take.ensures.rest c.put_take.ensures.rooms;
    }

pub returns-clause-takes : goal.returns-clause-takes
returns-clause-takes c =
    let es = c.args.entries.now in
    sym (ap (map take_of) (take_all c.loop-index.index c.loop-index.levels
    (subst (λ n. n ≤ c.loop-index.index) (sym c.loop-index.auto.levels) c.loop-index-test.false)))
    ∙ c.loop-index.invariant.takes
    ∙ take_all c.loop-index.index es (subst (λ n. n ≤ c.loop-index.index)
    (same-count (λ l. l.take.room) c.args.levels.now es c.requires) c.loop-index-test.false)
