use Rattle.std.proofs.Common.{◌≡◌, drop, map}
use Rattle.mp_pattern.specs.Normal.{normal_patterns, IsNormalPattern}
use Rattle.mp_pattern.specs.PatternTree.{patterns}
use Rattle.mp_pattern.specs.Size.{pattern_nodes}
use Rattle.mp_pattern.specs.View.{pattern_tree}
use Rattle.mp_build.proofs.normal.+is_plain.Given as goal

abbrev pub decreases-is_plain : goal.decreases-is_plain
decreases-is_plain l = pattern_nodes (pattern_tree l.pattern.now)

-- where the arguments behind are normal, the pattern is
abbrev pub invariant-loop-arg : goal.invariant-loop-arg
invariant-loop-arg l =
    let rest = map pattern_tree (drop l.arg-index l.arg-items) in
    normal_patterns l.sig (patterns rest) ≡ rest → IsNormalPattern l.sig (pattern_tree l.pattern)
