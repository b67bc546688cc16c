use Rattle.std.proofs.Common.{◌+◌, ◌*◌, map}
use Rattle.mp_pattern.specs.Size.{pattern_nodes, list_nodes}
use Rattle.mp_pattern.specs.View.{pattern_tree}
use Rattle.mp_cursor.proofs.wildcards.+no_optional.Given as goal

abbrev pub decreases-has_no_optional : goal.decreases-has_no_optional
decreases-has_no_optional l = 2 * pattern_nodes (pattern_tree l.pattern.now)

abbrev pub decreases-none_optional : goal.decreases-none_optional
decreases-none_optional l = 2 * list_nodes (map pattern_tree l.children.now) + 1
