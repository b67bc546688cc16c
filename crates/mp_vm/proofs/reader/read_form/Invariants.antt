use Rattle.std.proofs.Common.{length}
use Rattle.mp_line.specs.declared.names.TheConstants.{MAX_KEPT}
use Rattle.mp_vm.proofs.FormReading.{IsReading}
use Rattle.mp_vm.proofs.reader.read_form.Given as goal

abbrev pub invariant-loop-text : goal.invariant-loop-text
invariant-loop-text l = IsReading l.sig MAX_KEPT l.bytes l.draft l.lines l.line

abbrev pub decreases-loop-text : goal.decreases-loop-text
decreases-loop-text l = length l.lines
