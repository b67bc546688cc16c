use Rattle.std.proofs.Common.{◌≡◌, take}
use Rattle.mp_program.specs.ProgramView.{program_view}
use Rattle.mp_table.specs.Table.{subject_of}
use Rattle.mp_vm.proofs.RunLaws.{HasAdded}
use Rattle.mp_vm.proofs.run.add_pairs.Given as goal

abbrev pub invariant-loop-number : goal.invariant-loop-number
invariant-loop-number l = record {
  added : HasAdded l.sig (program_view l.program) (subject_of l.walk.table) l.fn.found.pairs l.found.pairs
      l.walk.item (take l.number-index l.accepts);
  over : l.found.table ≡ l.table;
}
