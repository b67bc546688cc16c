use Rattle.std.proofs.Common.{◌≡◌, ◌+◌, ◌*◌, ◌++◌, map, drop}
use Rattle.mp_pattern.specs.CondSize.{cond_nodes, cond_list_nodes}
use Rattle.mp_pattern.specs.CondView.{cond_tree}
use Rattle.mp_line.specs.Named.{names_in, all_cond_names}
use Rattle.mp_line.proofs.test.+condition_names.Given as goal

abbrev pub decreases-condition_names : goal.decreases-condition_names
decreases-condition_names l = 2 * cond_nodes (cond_tree l.cond.now)

abbrev pub decreases-all_condition_names : goal.decreases-all_condition_names
decreases-all_condition_names l = 2 * cond_list_nodes (map cond_tree l.conds.now) + 1

abbrev pub invariant-all_condition_names-loop-cond : goal.invariant-all_condition_names-loop-cond
invariant-all_condition_names-loop-cond l =
    names_in l.names.items ++ all_cond_names (map cond_tree (drop l.cond-index l.conds))
    ≡ names_in l.fn.names.items ++ all_cond_names (map cond_tree l.conds)
