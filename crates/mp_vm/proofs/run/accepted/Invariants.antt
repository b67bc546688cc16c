use Rattle.std.proofs.Common.{◌≡◌, length}
use Rattle.mp_program.specs.ProgramView.{program_view}
use Rattle.mp_table.specs.Table.{subject_of}
use Rattle.mp_vm.proofs.RunLaws.{HasFound}
use Rattle.mp_vm.proofs.run.accepted.Given as goal

abbrev pub invariant-loop-found : goal.invariant-loop-found
invariant-loop-found l = record {
  sig : l.walk.sig ≡ l.sig;
  code : l.walk.code ≡ l.program.code;
  table : l.walk.table ≡ l.table;
  found : HasFound l.sig (program_view l.program) (subject_of l.table) l.found.pairs l.walk.to_come;
  over : l.found.table ≡ l.table;
}

abbrev pub decreases-loop-found : goal.decreases-loop-found
decreases-loop-found l = length l.walk.to_come
