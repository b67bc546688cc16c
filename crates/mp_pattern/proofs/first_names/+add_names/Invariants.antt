use Rattle.std.proofs.Common.{◌+◌, ◌*◌, map}
use Rattle.mp_pattern.specs.Size.{pattern_nodes, list_nodes}
use Rattle.mp_pattern.specs.View.{pattern_tree}
use Rattle.mp_pattern.proofs.first_names.+add_names.Given as goal

abbrev pub decreases-add_names : goal.decreases-add_names
decreases-add_names l = 2 * pattern_nodes (pattern_tree l.pattern.now)

abbrev pub decreases-add_all_names : goal.decreases-add_all_names
decreases-add_all_names l = 2 * list_nodes (map pattern_tree l.patterns.now) + 1
