use Rattle.std.proofs.Common.{◌≡◌, ◌+◌, ◌++◌, drop, map, length}
use Rattle.mp_pattern.specs.PatternTree.{patterns}
use Rattle.mp_pattern.specs.Size.{pattern_nodes, all_pattern_nodes}
use Rattle.mp_pattern.specs.View.{pattern_tree}
use Rattle.mp_pattern.specs.Plan.{nodes, all_nodes}
use Rattle.mp_pattern.specs.PlanView.{kept_of, stored}
use Rattle.mp_pattern.proofs.compile.+push_nodes.Given as goal

abbrev pub invariant-loop-arg : goal.invariant-loop-arg
invariant-loop-arg l = record {
  nodes : map stored l.out.items ++ map kept_of (all_nodes (map (λ n. n.now) l.names) l.number (length l.out.items)
      (patterns (map pattern_tree (drop l.arg-index l.arg-items))))
      ≡ map stored l.fn.out.items ++ map kept_of (nodes (map (λ n. n.now) l.names) l.fn.parent (length l.fn.out.items)
      (pattern_tree l.pattern));
  count : length l.out.items + all_pattern_nodes (patterns (map pattern_tree (drop l.arg-index l.arg-items)))
      ≡ length l.fn.out.items + pattern_nodes (pattern_tree l.pattern);
}
