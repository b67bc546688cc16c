use Rattle.std.proofs.Common.{◌≡◌, ◌≤◌, ◌+◌, ◌*◌, map}
use Rattle.std.specs.List.{list_all}
use Rattle.mp_pattern.specs.CondTree.{conds}
use Rattle.mp_pattern.specs.CondView.{cond_tree}
use Rattle.mp_pattern.specs.CondSize.{cond_nodes, all_cond_nodes, cond_list_nodes}
use Rattle.mp_pattern.specs.Operands.{all_operands}
use Rattle.mp_cond.specs.Verdict.{is_settled}
use Rattle.mp_cond.proofs.Parts.{behind}
use Rattle.mp_cond.proofs.settled.+settled.Given as goal

abbrev pub invariant-all_settled-loop-part : goal.invariant-all_settled-loop-part
invariant-all_settled-loop-part l =
    let settled = list_all (is_settled l.plan l.trail) in
    record {
      smaller : all_cond_nodes (behind cond_tree l.parts l.part-index) ≤ cond_list_nodes (map cond_tree l.parts);
      rest : settled (all_operands (behind cond_tree l.parts l.part-index))
          ≡ settled (all_operands (conds (map cond_tree l.parts)));
    }

abbrev pub decreases-are_settled : goal.decreases-are_settled
decreases-are_settled l = 2 * cond_nodes (cond_tree l.cond.now)

abbrev pub decreases-all_settled : goal.decreases-all_settled
decreases-all_settled l = 2 * cond_list_nodes (map cond_tree l.parts.now) + 1
