use Rattle.std.proofs.Common.{◌+◌, ◌*◌, map, take}
use Rattle.mp_io.specs.Writing.{Puts}
use Rattle.mp_pattern.specs.CondTree.{conds}
use Rattle.mp_pattern.specs.CondView.{cond_tree}
use Rattle.mp_pattern.specs.CondSize.{cond_nodes, cond_list_nodes}
use Rattle.mp_print.specs.Printing.{separated}
use Rattle.mp_print.specs.PrintedCond.{part_texts}
use Rattle.mp_print.proofs.cond_printer.+put_cond.Given as goal

-- the parts so far were put, with what stands between them
abbrev pub invariant-put_parts-loop-index : goal.invariant-put_parts-loop-index
invariant-put_parts-loop-index g l =
    Puts g.K.Sink l.fn.out l.out
    (separated l.separator (take l.index (part_texts l.sig l.least (conds (map cond_tree l.parts)))))

-- each function of the cycle is nearer to the parts than the one before it
abbrev pub decreases-put_cond : goal.decreases-put_cond
decreases-put_cond g l = 3 * cond_nodes (cond_tree l.cond.now)

abbrev pub decreases-put_parts : goal.decreases-put_parts
decreases-put_parts g l = 3 * cond_list_nodes (map cond_tree l.parts.now) + 2

abbrev pub decreases-put_part : goal.decreases-put_part
decreases-put_part g l = 3 * cond_nodes (cond_tree l.part.now) + 1
