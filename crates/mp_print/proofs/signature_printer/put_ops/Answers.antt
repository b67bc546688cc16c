use Rattle.mp_print.specs.PrintedSignature.{op_text}
use Rattle.mp_print.proofs.Parts.{Puts-got}
use Rattle.mp_print.proofs.signature_printer.put_ops.Goals as goal

pub loop-number-preserved : goal.loop-number-preserved
loop-number-preserved g c =
    Puts-got g.K.Sink op_text c.args.sig.now.ops c.loop-number.number _ _ _ c.loop-number.invariant c.put_op_of.ensures
