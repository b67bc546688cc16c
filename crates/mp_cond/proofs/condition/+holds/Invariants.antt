use Rattle.std.proofs.Common.{◌≡◌, ◌≤◌, ◌+◌, ◌*◌, map}
use Rattle.mp_pattern.specs.CondTree.{conds}
use Rattle.mp_pattern.specs.CondView.{cond_tree}
use Rattle.mp_pattern.specs.CondSize.{cond_nodes, all_cond_nodes, cond_list_nodes}
use Rattle.mp_pattern.specs.Holds.{all_hold, some_holds}
use Rattle.mp_cond.proofs.Parts.{behind, AllBehind}
use Rattle.mp_cond.proofs.condition.+holds.Given as goal

abbrev pub invariant-all_hold-loop-part : goal.invariant-all_hold-loop-part
invariant-all_hold-loop-part g l =
    let hold = all_hold l.sig (g.V.Values.subst l.values) in
    record {
      ready : AllBehind cond_tree l.parts (g.V.Values.is_ready l.values) l.part-index;
      smaller : all_cond_nodes (behind cond_tree l.parts l.part-index) ≤ cond_list_nodes (map cond_tree l.parts);
      rest : hold (behind cond_tree l.parts l.part-index) ≡ hold (conds (map cond_tree l.parts));
    }

abbrev pub invariant-some_holds-loop-part : goal.invariant-some_holds-loop-part
invariant-some_holds-loop-part g l =
    let hold = some_holds l.sig (g.V.Values.subst l.values) in
    record {
      ready : AllBehind cond_tree l.parts (g.V.Values.is_ready l.values) l.part-index;
      smaller : all_cond_nodes (behind cond_tree l.parts l.part-index) ≤ cond_list_nodes (map cond_tree l.parts);
      rest : hold (behind cond_tree l.parts l.part-index) ≡ hold (conds (map cond_tree l.parts));
    }

abbrev pub decreases-holds_of : goal.decreases-holds_of
decreases-holds_of g l = 2 * cond_nodes (cond_tree l.cond.now)

abbrev pub decreases-all_hold : goal.decreases-all_hold
decreases-all_hold g l = 2 * cond_list_nodes (map cond_tree l.parts.now) + 1

abbrev pub decreases-some_holds : goal.decreases-some_holds
decreases-some_holds g l = 2 * cond_list_nodes (map cond_tree l.parts.now) + 1
