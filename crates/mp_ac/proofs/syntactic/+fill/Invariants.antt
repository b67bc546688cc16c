use Rattle.std.proofs.Common.{◌+◌, ◌*◌, map}
use Rattle.mp_pattern.specs.Size.{pattern_nodes, list_nodes}
use Rattle.mp_pattern.specs.View.{pattern_tree}
use Rattle.mp_ac.proofs.syntactic.+fill.Given as goal

abbrev pub decreases-fill : goal.decreases-fill
decreases-fill l = 2 * pattern_nodes (pattern_tree l.pattern.now)

abbrev pub decreases-fill_all : goal.decreases-fill_all
decreases-fill_all l = 2 * list_nodes (map pattern_tree l.list.now) + 1
