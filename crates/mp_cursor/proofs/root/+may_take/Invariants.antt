use Rattle.std.proofs.Common.{◌+◌, ◌*◌, map, length}
use Rattle.mp_pattern.specs.PatternTree.{patterns}
use Rattle.mp_pattern.specs.Subpatterns.{subpatterns, all_subpatterns}
use Rattle.mp_pattern.specs.View.{pattern_tree}
use Rattle.mp_cursor.proofs.root.+may_take.Given as goal

abbrev pub decreases-may_take : goal.decreases-may_take
decreases-may_take l = 3 * length (subpatterns (pattern_tree l.pattern.now))

abbrev pub decreases-each_may_take : goal.decreases-each_may_take
decreases-each_may_take l = 3 * length (all_subpatterns (patterns (map pattern_tree l.children.now))) + 1

abbrev pub decreases-may_take_arguments : goal.decreases-may_take_arguments
decreases-may_take_arguments l = 3 * length (all_subpatterns (patterns (map pattern_tree l.children.now))) + 2
