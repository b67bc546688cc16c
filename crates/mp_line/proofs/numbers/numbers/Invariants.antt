use Rattle.std.proofs.Common.{length}
use Rattle.std.specs.Prelude.{decimal}
use Rattle.mp_program.specs.RightForm.{IsShort}
use Rattle.mp_line.proofs.ItemLaws.{IsFrontOf}
use Rattle.mp_line.proofs.numbers.numbers.Given as goal

abbrev pub invariant-loop-rest : goal.invariant-loop-rest
invariant-loop-rest l = IsFrontOf IsShort decimal l.fn.text l.rest l.numbers

abbrev pub decreases-loop-rest : goal.decreases-loop-rest
decreases-loop-rest l = length l.rest
