use Rattle.std.proofs.Common.{map, take}
use Rattle.mp_io.specs.Writing.{Puts}
use Rattle.mp_walk.specs.InstrView.{plain_instr}
use Rattle.mp_program.specs.FormText.{lines_text, instr_lines}
use Rattle.mp_program.proofs.printer.put_instrs.Given as goal

-- the lines of the instructions so far were put
abbrev pub invariant-loop-index : goal.invariant-loop-index
invariant-loop-index g l = Puts g.K.Sink l.fn.out l.out
    (lines_text (instr_lines l.sig 1 (map plain_instr (take l.index l.code))))
