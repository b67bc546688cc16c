use Rattle.std.proofs.Common.{◌+◌, ◌*◌, map, length}
use Rattle.mp_pattern.specs.PatternTree.{patterns}
use Rattle.mp_pattern.specs.Subpatterns.{subpatterns, all_subpatterns}
use Rattle.mp_pattern.specs.View.{pattern_tree}
use Rattle.mp_search.proofs.may_match.+may_match.Given as goal

abbrev pub decreases-may_match : goal.decreases-may_match
decreases-may_match l = 2 * length (subpatterns (pattern_tree l.child.now))

abbrev pub decreases-each_may_match : goal.decreases-each_may_match
decreases-each_may_match l = 2 * length (all_subpatterns (patterns (map pattern_tree l.children.now))) + 1
