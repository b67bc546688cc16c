use Rattle.std.proofs.Common.{◌+◌, ◌*◌, length, map, take}
use Rattle.std.specs.Prelude.{sum_by}
use Rattle.mp_io.specs.Writing.{Puts}
use Rattle.mp_print.specs.Printing.{separated, separator_text}
use Rattle.mp_print.proofs.tree_printer.+put_tree.Given as goal

-- the trees so far were put, with what stands between them
abbrev pub invariant-put_between-loop-index : goal.invariant-put_between-loop-index
invariant-put_between-loop-index g l = Puts g.K.Sink l.initial.out l.out
    (separated (separator_text l.sign (length l.trees))
    (take l.index (map (g.T.PrintedTree.text l.sig l.base) l.trees)))

abbrev pub decreases-put_tree : goal.decreases-put_tree
decreases-put_tree g l = 3 * g.T.PrintedTree.size l.base.now l.tree.now

abbrev pub decreases-put_application : goal.decreases-put_application
decreases-put_application g l = 3 * sum_by (g.T.PrintedTree.size l.base.now) l.args.now + 2

abbrev pub decreases-put_between : goal.decreases-put_between
decreases-put_between g l = 3 * sum_by (g.T.PrintedTree.size l.base.now) l.trees.now + 1
