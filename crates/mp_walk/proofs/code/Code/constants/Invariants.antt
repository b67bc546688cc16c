use Rattle.std.proofs.Common.{◌≡◌, ◌++◌, drop, map}
use Rattle.mp_term.specs.View.{tree}
use Rattle.mp_walk.specs.CodeConstants.{code_constants}
use Rattle.mp_walk.specs.InstrView.{plain_instr}
use Rattle.mp_walk.proofs.code.Code.constants.Given as goal

abbrev pub invariant-loop-instr : goal.invariant-loop-instr
invariant-loop-instr l =
    map tree l.found.items ++ code_constants (map plain_instr (drop l.instr-index l.instr-items))
    ≡ code_constants (map plain_instr l.instr-items)
