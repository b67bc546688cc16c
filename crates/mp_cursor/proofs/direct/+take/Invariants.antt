use Rattle.std.proofs.Common.{◌+◌, ◌*◌, map}
use Rattle.mp_pattern.specs.Size.{pattern_nodes, list_nodes}
use Rattle.mp_pattern.specs.View.{pattern_tree}
use Rattle.mp_cursor.proofs.direct.+take.Given as goal

abbrev pub decreases-take : goal.decreases-take
decreases-take l = 2 * pattern_nodes (pattern_tree l.pattern.now)

abbrev pub decreases-take_each : goal.decreases-take_each
decreases-take_each l = 2 * list_nodes (map pattern_tree l.children.now) + 1
