use Rattle.std.proofs.Common.{◌≡◌, ◌++◌, drop, map}
use Rattle.mp_pattern.specs.PatternTree.{patterns}
use Rattle.mp_pattern.specs.View.{pattern_tree}
use Rattle.mp_pattern.specs.Subpatterns.{subpatterns, all_subpatterns}
use Rattle.mp_pattern.proofs.outline.+push_subpatterns.Given as goal

abbrev pub invariant-loop-arg : goal.invariant-loop-arg
invariant-loop-arg l =
    map (λ p. pattern_tree p.now) l.out.items
    ++ all_subpatterns (patterns (map pattern_tree (drop l.arg-index l.arg-items)))
    ≡ map (λ p. pattern_tree p.now) l.fn.out.items ++ subpatterns (pattern_tree l.pattern)
