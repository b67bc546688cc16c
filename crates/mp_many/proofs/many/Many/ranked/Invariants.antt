use Rattle.std.proofs.Common.{◌≡◌, length}
use Rattle.mp_table.specs.Table.{subject_of}
use Rattle.mp_many.proofs.FoundLaws.{HasFound}
use Rattle.mp_many.proofs.many.Many.ranked.Given as goal

abbrev pub invariant-loop-found : goal.invariant-loop-found
invariant-loop-found l = record {
  many : l.walk.many ≡ l.self;
  table : l.walk.table ≡ l.table;
  found : HasFound l.self.sig l.self.rules (subject_of l.table) l.found.pairs l.walk.to_come;
  over : l.found.table ≡ l.table;
}

abbrev pub decreases-loop-found : goal.decreases-loop-found
decreases-loop-found l = length l.walk.to_come
