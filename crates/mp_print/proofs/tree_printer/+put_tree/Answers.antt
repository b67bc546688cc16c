use Rattle.std.proofs.Common.{arith, length, refl}
use Rattle.mp_print.specs.Printing.{separator_text}
use Rattle.mp_print.proofs.Separated.{Puts-separated}
use Rattle.mp_print.proofs.tree_printer.+put_tree.Goals as goal

pub put_between-loop-index-preserved : goal.put_between-loop-index-preserved
put_between-loop-index-preserved g t c =
    Puts-separated g.K.Sink (g.T.PrintedTree.text c.args.sig.now c.args.base.now)
    (separator_text c.args.sign.now (length c.args.trees.now)) c.args.trees.now _ refl c.loop-index.index
    c.index-trees-index.result (omega arith) c.index-trees-index.is _ _ _ _
    c.loop-index.invariant c.put_argument_gap.ensures c.put_tree.ensures
