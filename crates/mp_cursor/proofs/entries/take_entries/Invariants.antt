use Rattle.std.proofs.Common.{◌≡◌, map, take}
use Rattle.mp_search.specs.Levels.{take_of}
use Rattle.mp_cursor.proofs.entries.take_entries.Given as goal

-- the entries of the nodes so far
abbrev pub invariant-loop-level : goal.invariant-loop-level
invariant-loop-level l = l.entries ≡ map take_of (take l.level-index l.levels)
