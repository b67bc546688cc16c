use Rattle.std.proofs.Common.{◌≡◌, ℕ, map, take}
use Rattle.mp_table.specs.Table.{Table}
use Rattle.mp_search.specs.Levels.{take_of, AreLevels}
use Rattle.mp_cursor.specs.Kept.{AreHeldTakes}
use Rattle.mp_cursor.proofs.takes.put_takes.Given as goal

abbrev pub invariant-loop-index : goal.invariant-loop-index
invariant-loop-index l = record {
  takes : map take_of (take l.index l.levels) ≡ take l.index l.entries;
  rooms : map (λ k. k.take.room) l.levels ≡ map (λ k. k.take.room) l.initial.levels;
  levels : (table : Table) (width : ℕ) → AreLevels table width l.initial.levels
      → AreHeldTakes table l.entries → AreLevels table width l.levels;
}
