use Rattle.std.proofs.Common.{◌+◌, ◌++◌, [], ◌∷◌, map, take, sym, subst, arith}
use Rattle.mp_io.specs.Writing.{Puts}
use Rattle.mp_io.proofs.WritingLaws.{Puts-then}
use Rattle.mp_walk.specs.InstrView.{plain_instr}
use Rattle.mp_program.specs.FormText.{lines_text, instr_line, instr_lines}
use Rattle.mp_program.proofs.PrintedLines.{instr_lines-next}
use Rattle.mp_program.proofs.printer.put_instrs.Goals as goal

pub loop-index-preserved : goal.loop-index-preserved
loop-index-preserved g c =
    let sig = c.args.sig.now in
    let code = c.args.code.now in
    let index = c.loop-index.index in
    let instr = c.index-code-index.result in
    subst (Puts g.K.Sink c.args.out.now c.put_instr.new.out)
    (sym (instr_lines-next sig plain_instr code index instr (omega arith) c.index-code-index.is))
    (Puts-then g.K.Sink _ _ _ (lines_text (instr_lines sig 1 (map plain_instr (take index code))))
    (instr_line sig (index + 1) (plain_instr instr) ++ 10 ∷ []) c.loop-index.invariant c.put_instr.ensures)
