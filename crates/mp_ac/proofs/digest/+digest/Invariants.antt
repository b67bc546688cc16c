use Rattle.std.proofs.Common.{length}
use Rattle.mp_pattern.specs.Subpatterns.{subpatterns}
use Rattle.mp_pattern.specs.View.{pattern_tree}
use Rattle.mp_ac.proofs.digest.+digest.Given as goal

abbrev pub decreases-digest : goal.decreases-digest
decreases-digest l = length (subpatterns (pattern_tree l.pattern.now))
