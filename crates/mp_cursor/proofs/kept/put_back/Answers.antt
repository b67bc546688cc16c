use Rattle.std.proofs.Common.{◌≡◌, ◌≤◌, ◌∙◌, ap, sym, subst, map, length}
use Rattle.std.specs.Prelude.{slice_index_or}
use Rattle.std.proofs.lemmas.List.{take_all}
use Rattle.mp_table.specs.Table.{HasRanks}
use Rattle.mp_search.specs.Levels.{take_of}
use Rattle.mp_cursor.specs.Kept.{kept_of, HaveRoom}
use Rattle.mp_cursor.proofs.SliceLaws.{taken-step, set-same, all-mapped}
use Rattle.mp_cursor.proofs.TakesLaws.{room-at, room-within, room-beyond, set-levels}
use Rattle.mp_cursor.proofs.kept.put_back.Goals as goal
use Rattle.mp_cursor.proofs.kept.put_back.Goals.{After-set}
use Rattle.mp_term.proofs.ListLaws.{get_or-same}

pub bounds-levels-index : goal.bounds-levels-index
bounds-levels-index c = room-within (λ l. l.take.room) kept_of c.loop-index.levels c.args.levels.now c.args.kept.now
    c.loop-index.index c.requires.room c.loop-index.auto.levels c.loop-index-test.true

pub set-requires : goal.set-requires
set-requires c =
    let within = room-within (λ l. l.take.room) kept_of c.loop-index.levels c.args.levels.now c.args.kept.now
    c.loop-index.index c.requires.room c.loop-index.auto.levels c.loop-index-test.true in
    subst (λ rs. length rs
    ≤ (slice_index_or c.loop-index.levels c.loop-index.index c.index-levels-index.result).take.room)
    (sym c.as_slice.ensures)
    (room-at (λ l. l.take.room) kept_of c.loop-index.levels c.args.kept.now c.loop-index.index
    c.index-levels-index.result c.index-kept-index.result
    (subst (λ ns. HaveRoom ns (map kept_of c.args.kept.now)) (sym c.loop-index.invariant.rooms) c.requires.room) within)

-- the level takes what was kept
given : (c : After-set) → take_of c.set.new.self
    ≡ kept_of (slice_index_or c.args.kept.now c.loop-index.index c.index-kept-index.result)
given c = c.set.ensures.take
    ∙ ap (λ rs. (
      rs,
      (slice_index_or c.args.kept.now c.loop-index.index c.index-kept-index-in-loop-index.result).collapsed,
    )) c.as_slice.ensures
    ∙ ap (λ k. (
      (slice_index_or c.args.kept.now c.loop-index.index c.index-kept-index.result).take.items.items,
      k.collapsed,
    )) (get_or-same c.args.kept.now c.loop-index.index c.index-kept-index-in-loop-index.result c.index-kept-index.result
    c.loop-index-test.true)

pub loop-index-preserved : goal.loop-index-preserved
loop-index-preserved c =
    let within = room-within (λ l. l.take.room) kept_of c.loop-index.levels c.args.levels.now c.args.kept.now
    c.loop-index.index c.requires.room c.loop-index.auto.levels c.loop-index-test.true in
    record {
      takes = taken-step take_of kept_of c.loop-index.levels c.args.kept.now c.loop-index.index c.set.new.self
          c.index-kept-index.result within c.loop-index-test.true c.loop-index.invariant.takes (given c);
      rooms = set-same (λ l. l.take.room) c.loop-index.levels c.loop-index.index c.set.new.self
          c.index-levels-index.result within (ap (λ r. r.0) c.set.ensures.rooms) ∙ c.loop-index.invariant.rooms;
      levels = λ table width a h. set-levels table width c.loop-index.levels c.loop-index.index
          c.index-levels-index.result c.set.new.self
          (kept_of (slice_index_or c.args.kept.now c.loop-index.index c.index-kept-index.result)).0
          (kept_of (slice_index_or c.args.kept.now c.loop-index.index c.index-kept-index.result)).1
          within (c.loop-index.invariant.levels table width a h)
          (all-mapped (λ k. HasRanks table k.0) kept_of c.args.kept.now c.loop-index.index c.index-kept-index.result h
          c.loop-index-test.true)
          (given c) c.set.ensures.draws c.set.ensures.rest c.set.ensures.rooms;
    }

pub returns-clause-takes : goal.returns-clause-takes
returns-clause-takes c =
    sym (ap (map take_of) (take_all c.loop-index.index c.loop-index.levels
    (room-beyond (λ l. l.take.room) kept_of c.loop-index.levels c.args.levels.now c.args.kept.now c.loop-index.index
    c.requires.room c.loop-index.auto.levels c.loop-index-test.false)))
    ∙ c.loop-index.invariant.takes
    ∙ ap (map kept_of) (take_all c.loop-index.index c.args.kept.now c.loop-index-test.false)
