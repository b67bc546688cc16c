use Rattle.std.proofs.Common.{◌+◌, ◌*◌}
use Rattle.mp_search.proofs.rivals.+settle_child.Given as goal

abbrev pub decreases-settle_child : goal.decreases-settle_child
decreases-settle_child l = 2 * l.steps

abbrev pub decreases-make_free : goal.decreases-make_free
decreases-make_free l = 2 * l.steps + 1
