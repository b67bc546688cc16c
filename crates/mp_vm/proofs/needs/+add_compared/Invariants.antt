use Rattle.std.proofs.Common.{◌≡◌, ◌+◌, ◌*◌, drop, map}
use Rattle.mp_pattern.specs.CondSize.{cond_nodes, cond_list_nodes}
use Rattle.mp_pattern.specs.CondTree.{conds}
use Rattle.mp_pattern.specs.CondView.{cond_tree}
use Rattle.mp_program.specs.TokenPaths.{all_less_names}
use Rattle.mp_vm.specs.RuleNeeds.{with_places}
use Rattle.mp_vm.proofs.needs.+add_compared.Given as goal

abbrev pub decreases-add_compared : goal.decreases-add_compared
decreases-add_compared l = 2 * cond_nodes (cond_tree l.cond.now)

abbrev pub decreases-add_all_compared : goal.decreases-add_all_compared
decreases-add_all_compared l = 2 * cond_list_nodes (map cond_tree l.parts.now) + 1

abbrev pub invariant-add_all_compared-loop-part : goal.invariant-add_all_compared-loop-part
invariant-add_all_compared-loop-part l =
    with_places l.places.items (all_less_names (conds (map cond_tree (drop l.part-index l.parts))))
    ≡ with_places l.fn.places.items (all_less_names (conds (map cond_tree l.parts)))
