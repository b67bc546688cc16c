use Rattle.std.proofs.Common.{map}
use Rattle.mp_pattern.specs.PatternTree.{patterns}
use Rattle.mp_pattern.specs.Size.{all_pattern_nodes}
use Rattle.mp_pattern.specs.View.{pattern_tree}
use Rattle.mp_ac.proofs.subpattern.+among.Given as goal

abbrev pub decreases-among : goal.decreases-among
decreases-among l = all_pattern_nodes (patterns (map pattern_tree l.list.now))
