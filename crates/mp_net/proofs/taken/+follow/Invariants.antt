use Rattle.std.proofs.Common.{◌+◌, ◌*◌, map}
use Rattle.mp_pattern.specs.Size.{pattern_nodes, list_nodes}
use Rattle.mp_pattern.specs.View.{pattern_tree}
use Rattle.mp_net.proofs.taken.+follow.Given as goal

abbrev pub decreases-follow : goal.decreases-follow
decreases-follow l = 2 * pattern_nodes (pattern_tree l.pattern.now)

abbrev pub decreases-follow_all : goal.decreases-follow_all
decreases-follow_all l = 2 * list_nodes (map pattern_tree l.patterns.now) + 1
