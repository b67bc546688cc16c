use Rattle.std.proofs.Common.{◌≡◌, ◌<◌, map, drop}
use Rattle.mp_term.specs.Tree.{trees}
use Rattle.mp_term.specs.View.{tree}
use Rattle.mp_term.specs.Size.{node_count, all_nodes}
use Rattle.mp_pattern.specs.Holds.{occurs, occurs_in}
use Rattle.mp_cond.proofs.subterm.+occurs.Given as goal

abbrev pub invariant-loop-arg : goal.invariant-loop-arg
invariant-loop-arg l = record {
  rest : occurs_in (tree l.term) (trees (map tree (drop l.arg-index l.arg-items)))
      ≡ occurs (tree l.term) (tree l.within);
  smaller : all_nodes (map tree (drop l.arg-index l.arg-items)) < node_count (tree l.within);
}

abbrev pub decreases-occurs : goal.decreases-occurs
decreases-occurs l = node_count (tree l.within.now)
