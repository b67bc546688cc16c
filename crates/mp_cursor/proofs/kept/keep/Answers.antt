use Rattle.std.proofs.Common.{◌≤◌, ◌∙◌, ap, sym, subst, map, length}
use Rattle.std.specs.Prelude.{slice_index_or}
use Rattle.std.proofs.lemmas.List.{take_all}
use Rattle.mp_search.specs.Levels.{take_of}
use Rattle.mp_cursor.specs.Kept.{kept_of, HaveRoom}
use Rattle.mp_cursor.proofs.SliceLaws.{taken-step, set-same}
use Rattle.mp_cursor.proofs.TakesLaws.{room-at, room-within, room-beyond}
use Rattle.mp_cursor.proofs.kept.keep.Goals as goal

pub bounds-kept-index : goal.bounds-kept-index
bounds-kept-index c = room-within (λ k. k.take.room) take_of c.loop-index.kept c.args.kept.now c.args.levels.now
    c.loop-index.index c.requires.room c.loop-index.auto.kept c.loop-index-test.true

pub keep-requires : goal.keep-requires
keep-requires c =
    let within = room-within (λ k. k.take.room) take_of c.loop-index.kept c.args.kept.now c.args.levels.now
    c.loop-index.index c.requires.room c.loop-index.auto.kept c.loop-index-test.true in
    subst (λ l. length l.take.items.items
    ≤ (slice_index_or c.loop-index.kept c.loop-index.index c.index-kept-index.result).take.room)
    (sym c.index-levels-index.is)
    (room-at (λ k. k.take.room) take_of c.loop-index.kept c.args.levels.now c.loop-index.index
    c.index-kept-index.result c.index-levels-index.result
    (subst (λ ns. HaveRoom ns (map take_of c.args.levels.now)) (sym c.loop-index.invariant.rooms) c.requires.room)
    within)

pub loop-index-preserved : goal.loop-index-preserved
loop-index-preserved c =
    let within = room-within (λ k. k.take.room) take_of c.loop-index.kept c.args.kept.now c.args.levels.now
    c.loop-index.index c.requires.room c.loop-index.auto.kept c.loop-index-test.true in
    record {
      takes = taken-step kept_of take_of c.loop-index.kept c.args.levels.now c.loop-index.index c.keep.new.self
          c.index-levels-index.result within c.loop-index-test.true c.loop-index.invariant.takes
          (c.keep.ensures.take ∙ ap take_of c.index-levels-index.is);
      rooms = set-same (λ k. k.take.room) c.loop-index.kept c.loop-index.index c.keep.new.self
          c.index-kept-index.result within c.keep.ensures.room ∙ c.loop-index.invariant.rooms;
    }

pub returns-clause-takes : goal.returns-clause-takes
returns-clause-takes c =
    sym (ap (map kept_of) (take_all c.loop-index.index c.loop-index.kept
    (room-beyond (λ k. k.take.room) take_of c.loop-index.kept c.args.kept.now c.args.levels.now c.loop-index.index
    c.requires.room c.loop-index.auto.kept c.loop-index-test.false)))
    ∙ c.loop-index.invariant.takes
    ∙ ap (map take_of) (take_all c.loop-index.index c.args.levels.now c.loop-index-test.false)
