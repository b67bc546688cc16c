use Rattle.std.proofs.Common.{◌≡◌, ◌≤◌, ◌+◌, ◌-◌, ◌^◌, drop, map, min}
use Rattle.mp_pattern.specs.PatternTree.{patterns}
use Rattle.mp_pattern.specs.Size.{pattern_nodes, all_pattern_nodes}
use Rattle.mp_pattern.specs.View.{pattern_tree}
use Rattle.mp_vm.proofs.above.+pattern_nodes.Given as goal

abbrev pub decreases-pattern_nodes : goal.decreases-pattern_nodes
decreases-pattern_nodes l = pattern_nodes (pattern_tree l.pattern.now)

abbrev pub invariant-loop-arg : goal.invariant-loop-arg
invariant-loop-arg l = record {
  fits : l.nodes ≤ 2 ^ 64 - 1;
  rest : min (l.nodes + all_pattern_nodes (patterns (map pattern_tree (drop l.arg-index l.arg-items)))) (2 ^ 64 - 1)
      ≡ min (pattern_nodes (pattern_tree l.pattern)) (2 ^ 64 - 1);
}
