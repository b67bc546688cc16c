use Rattle.std.proofs.Common.{◌≡◌, ◌-◌, drop}
use Rattle.mp_program.specs.RightForm.{are_ascending}
use Rattle.mp_line.proofs.action.are_ascending.Given as goal

abbrev pub invariant-loop-index : goal.invariant-loop-index
invariant-loop-index l = are_ascending (drop (l.index - 1) l.numbers) ≡ are_ascending l.numbers
