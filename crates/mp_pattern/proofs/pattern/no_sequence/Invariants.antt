use Rattle.std.proofs.Common.{◌≡◌, map, drop}
use Rattle.mp_pattern.specs.PatternTree.{patterns}
use Rattle.mp_pattern.specs.View.{pattern_tree}
use Rattle.mp_pattern.specs.Fits as fits
use Rattle.mp_pattern.proofs.pattern.no_sequence.Given as goal

abbrev pub invariant-loop-child : goal.invariant-loop-child
invariant-loop-child l = fits.no_sequence (patterns (map pattern_tree (drop l.child-index l.children)))
    ≡ fits.no_sequence (patterns (map pattern_tree l.children))
