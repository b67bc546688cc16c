use Rattle.std.proofs.Common.{◌≡◌, ◌+◌, length, map, take}
use Rattle.mp_subst.specs.Trail.{Trail}
use Rattle.mp_walk.specs.Course.{table_read}
use Rattle.mp_walk.specs.Levels.{read_of}
use Rattle.mp_walk.proofs.entries.entry_among.Given as goal

-- so far the node stands behind the entries
abbrev pub invariant-loop-level : goal.invariant-loop-level
invariant-loop-level l = record {
  behind : (u : Trail) → l.rest + length (table_read l.code.instrs
      (map (read_of l.table l.frames u) (take l.level-index l.levels))) ≡ l.node;
}
