use Rattle.std.proofs.Common.{◌≡◌, ◌+◌, drop, map}
use Rattle.std.specs.Prelude.{slice_get}
use Rattle.mp_pattern.specs.PatternTree.{patterns}
use Rattle.mp_pattern.specs.Size.{pattern_nodes, all_pattern_nodes}
use Rattle.mp_pattern.specs.Subpatterns.{subpatterns, all_subpatterns}
use Rattle.mp_pattern.specs.View.{pattern_tree}
use Rattle.mp_pattern.proofs.plan.+subpattern_at.Given as goal

abbrev pub invariant-loop-arg : goal.invariant-loop-arg
invariant-loop-arg l = record {
  place : slice_get (subpatterns (pattern_tree l.pattern)) l.fn.place
      ≡ slice_get (all_subpatterns (patterns (map pattern_tree (drop l.arg-index l.arg-items)))) l.left;
  left : l.fn.place + all_pattern_nodes (patterns (map pattern_tree (drop l.arg-index l.arg-items)))
      ≡ pattern_nodes (pattern_tree l.pattern) + l.left;
}
