use Rattle.std.proofs.Common.{◌≡◌, ◌++◌, drop, map, flat_map}
use Rattle.mp_term.specs.View.{tree}
use Rattle.mp_pattern.specs.CondTree.{conds}
use Rattle.mp_pattern.specs.CondView.{cond_tree}
use Rattle.mp_pattern.specs.Operands.{operands, all_operands}
use Rattle.mp_pattern.specs.Constants.{ground_term}
use Rattle.mp_pattern.proofs.constant.+push_cond_constants.Given as goal

abbrev pub invariant-loop-part : goal.invariant-loop-part
invariant-loop-part l =
    map tree l.found.items
    ++ flat_map ground_term (all_operands (conds (map cond_tree (drop l.part-index l.part-items))))
    ≡ map tree l.fn.found.items ++ flat_map ground_term (operands (cond_tree l.cond))
