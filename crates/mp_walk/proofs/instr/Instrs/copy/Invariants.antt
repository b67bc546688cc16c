use Rattle.std.proofs.Common.{◌≡◌, ◌++◌, map, drop}
use Rattle.mp_walk.specs.InstrView.{plain_instr}
use Rattle.mp_walk.proofs.instr.Instrs.copy.Given as goal

abbrev pub invariant-loop-instr : goal.invariant-loop-instr
invariant-loop-instr l = l.copy ++ map plain_instr (drop l.instr-index l.instr-items) ≡ l.self
