use Rattle.std.proofs.Common.{◌≡◌, map, take}
use Rattle.mp_search.specs.Levels.{take_of}
use Rattle.mp_cursor.specs.Kept.{kept_of}
use Rattle.mp_cursor.proofs.kept.keep.Given as goal

abbrev pub invariant-loop-index : goal.invariant-loop-index
invariant-loop-index l = record {
  takes : map kept_of (take l.index l.kept) ≡ map take_of (take l.index l.levels);
  rooms : map (λ k. k.take.room) l.kept ≡ map (λ k. k.take.room) l.initial.kept;
}
