use Rattle.std.proofs.Common.{◌≡◌, ◌+◌, ◌*◌, drop, map}
use Rattle.mp_term.specs.Tree.{trees}
use Rattle.mp_term.specs.View.{tree}
use Rattle.mp_term.specs.Size.{node_count, all_nodes}
use Rattle.mp_rewrite.specs.Computed as computed
use Rattle.mp_pattern.specs.Planned.{planned_rule}
use Rattle.mp_rewrite.proofs.MarkLaws.{AllKnown}
use Rattle.mp_rewrite.proofs.known_redex.+first_known_redex.Given as goal

abbrev pub decreases-first_below : goal.decreases-first_below
decreases-first_below l = 2 * all_nodes l.args.now + 1

abbrev pub decreases-first_known_redex : goal.decreases-first_known_redex
decreases-first_known_redex l = 2 * node_count (tree l.term.now)

abbrev pub invariant-first_below-loop-index : goal.invariant-first_below-loop-index
invariant-first_below-loop-index l = record {
  known : AllKnown l.sig (map planned_rule l.rules) l.known l.args;
  passed : computed.first_below l.sig (map planned_rule l.rules) 0 (trees l.args)
      ≡ computed.first_below l.sig (map planned_rule l.rules) l.index (trees (drop l.index l.args));
}
