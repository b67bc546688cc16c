use Rattle.std.proofs.Common.{◌+◌, ◌*◌, map}
use Rattle.mp_pattern.specs.Size.{pattern_nodes, list_nodes}
use Rattle.mp_pattern.specs.View.{pattern_tree}
use Rattle.mp_ac.proofs.syntactic.+has_shape.Given as goal

abbrev pub decreases-has_shape : goal.decreases-has_shape
decreases-has_shape l = 2 * pattern_nodes (pattern_tree l.pattern.now)

abbrev pub decreases-have_shapes : goal.decreases-have_shapes
decreases-have_shapes l = 2 * list_nodes (map pattern_tree l.list.now) + 1
