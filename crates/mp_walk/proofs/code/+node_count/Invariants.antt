use Rattle.std.proofs.Common.{◌≡◌, ◌+◌, drop, map}
use Rattle.mp_pattern.specs.PatternTree.{patterns}
use Rattle.mp_pattern.specs.Size.{pattern_nodes, all_pattern_nodes}
use Rattle.mp_pattern.specs.View.{pattern_tree}
use Rattle.mp_walk.proofs.code.+node_count.Given as goal

abbrev pub decreases-node_count : goal.decreases-node_count
decreases-node_count l = pattern_nodes (pattern_tree l.pattern.now)

-- the nodes so far, and those of the children that are left, are all
abbrev pub invariant-loop-child : goal.invariant-loop-child
invariant-loop-child l = record {
  rest : l.count + all_pattern_nodes (patterns (map pattern_tree (drop l.child-index l.child-items)))
      ≡ pattern_nodes (pattern_tree l.pattern);
}
