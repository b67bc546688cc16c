use Rattle.std.proofs.Common.{◌+◌, ◌*◌, map}
use Rattle.mp_pattern.specs.Size.{pattern_nodes, list_nodes}
use Rattle.mp_pattern.specs.View.{pattern_tree}
use Rattle.mp_ac.proofs.syntactic.+entry_in.Given as goal

abbrev pub decreases-entry_in : goal.decreases-entry_in
decreases-entry_in l = 2 * pattern_nodes (pattern_tree l.pattern.now)

abbrev pub decreases-entry_among : goal.decreases-entry_among
decreases-entry_among l = 2 * list_nodes (map pattern_tree l.list.now) + 1
