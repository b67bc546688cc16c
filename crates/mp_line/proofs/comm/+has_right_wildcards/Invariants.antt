use Rattle.std.proofs.Common.{◌+◌, ◌*◌, map, drop}
use Rattle.std.specs.Prelude.{◌↔◌}
use Rattle.mp_pattern.specs.PatternTree.{patterns}
use Rattle.mp_pattern.specs.Size.{pattern_nodes, all_pattern_nodes}
use Rattle.mp_pattern.specs.View.{pattern_tree}
use Rattle.mp_line.specs.LineTexts.{HaveRightWildcards}
use Rattle.mp_line.proofs.comm.+has_right_wildcards.Given as goal

abbrev pub decreases-has_right_wildcards : goal.decreases-has_right_wildcards
decreases-has_right_wildcards l = 2 * pattern_nodes (pattern_tree l.pattern.now)

abbrev pub decreases-have_right_wildcards : goal.decreases-have_right_wildcards
decreases-have_right_wildcards l = 2 * all_pattern_nodes (patterns (map pattern_tree l.patterns.now)) + 1

abbrev pub invariant-have_right_wildcards-loop-pattern : goal.invariant-have_right_wildcards-loop-pattern
invariant-have_right_wildcards-loop-pattern l =
    HaveRightWildcards l.format (patterns (map pattern_tree (drop l.pattern-index l.patterns)))
    ↔ HaveRightWildcards l.format (patterns (map pattern_tree l.patterns))
