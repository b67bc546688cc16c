use Rattle.std.proofs.Common.{◌+◌, ◌*◌, map}
use Rattle.mp_pattern.specs.Size.{pattern_nodes, list_nodes}
use Rattle.mp_pattern.specs.View.{pattern_tree}
use Rattle.mp_ac.proofs.clash.+clashes_with.Given as goal

abbrev pub decreases-clashes_with : goal.decreases-clashes_with
decreases-clashes_with l = 2 * pattern_nodes (pattern_tree l.pattern.now)

abbrev pub decreases-any_clashes_with : goal.decreases-any_clashes_with
decreases-any_clashes_with l = 2 * list_nodes (map pattern_tree l.list.now) + 1
