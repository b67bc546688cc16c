use Rattle.std.proofs.Common.{◌+◌, ◌*◌, map}
use Rattle.mp_pattern.specs.Size.{pattern_nodes, list_nodes}
use Rattle.mp_pattern.specs.View.{pattern_tree}
use Rattle.mp_ac.proofs.clash.+clash.Given as goal

abbrev pub decreases-clash : goal.decreases-clash
decreases-clash l = 2 * pattern_nodes (pattern_tree l.pattern.now)

abbrev pub decreases-any_clash : goal.decreases-any_clash
decreases-any_clash l = 2 * list_nodes (map pattern_tree l.list.now) + 1
