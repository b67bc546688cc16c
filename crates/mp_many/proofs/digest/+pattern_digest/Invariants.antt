use Rattle.std.proofs.Common.{◌≡◌, drop, length, map}
use Rattle.mp_pattern.specs.PatternTree.{patterns}
use Rattle.mp_pattern.specs.Subpatterns.{subpatterns}
use Rattle.mp_pattern.specs.View.{pattern_tree}
use Rattle.mp_many.specs.Digest.{all_digest, pattern_digest}
use Rattle.mp_many.proofs.digest.+pattern_digest.Given as goal

abbrev pub decreases-pattern_digest : goal.decreases-pattern_digest
decreases-pattern_digest l = length (subpatterns (pattern_tree l.pattern.now))

abbrev pub invariant-loop-child : goal.invariant-loop-child
invariant-loop-child l =
    all_digest l.digest (patterns (map pattern_tree (drop l.child-index l.child-items)))
    ≡ pattern_digest l.seed (pattern_tree l.pattern)
