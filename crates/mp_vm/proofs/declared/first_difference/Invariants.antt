use Rattle.std.proofs.Common.{◌≡◌, ◌≤◌, ◌+◌, length}
use Rattle.mp_program.specs.FormFaults.{declaration_faults}
use Rattle.mp_program.specs.FormText.{lines_of}
use Rattle.mp_vm.proofs.declared.first_difference.Given as goal

-- the lines that are left have the faults, and there are few
abbrev pub invariant-loop-text : goal.invariant-loop-text
invariant-loop-text l = record {
  faults : declaration_faults l.line (lines_of l.wanted) (lines_of l.lines)
      ≡ declaration_faults 2 (lines_of l.fn.expected) (lines_of l.fn.found);
  few : l.line + length l.lines ≤ 2 + length l.fn.found;
}

abbrev pub decreases-loop-text : goal.decreases-loop-text
decreases-loop-text l = length l.wanted
