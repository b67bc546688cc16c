use Rattle.std.proofs.Common.{arith}
use Rattle.std.specs.Prelude.{codes}
use Rattle.mp_print.specs.PrintedEdits.{edit_text}
use Rattle.mp_print.proofs.Parts.{Puts-got_between}
use Rattle.mp_print.proofs.edit_printer.put_edits.Goals as goal

pub loop-index-preserved : goal.loop-index-preserved
loop-index-preserved g c =
    Puts-got_between g.K.Sink (edit_text c.args.sig.now) (codes ", ") c.args.edits.now c.loop-index.index (omega arith)
    _ _ _ _ c.loop-index.invariant c.put_gap.ensures c.put_edit_of.ensures
