use Rattle.std.proofs.Common.{◌+◌, ◌*◌, length}
use Rattle.mp_one.proofs.check.+check.Given as goal

abbrev pub decreases-goes_on : goal.decreases-goes_on
decreases-goes_on l = 3 * length l.entries.now

abbrev pub decreases-goes_on_behind : goal.decreases-goes_on_behind
decreases-goes_on_behind l = 3 * length l.later.now + 1

abbrev pub decreases-goes_on_with : goal.decreases-goes_on_with
decreases-goes_on_with l = 3 * length l.later.now + 2
