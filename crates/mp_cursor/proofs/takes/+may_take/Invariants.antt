use Rattle.std.proofs.Common.{length}
use Rattle.mp_cursor.proofs.takes.+may_take.Given as goal

abbrev pub decreases-may_take : goal.decreases-may_take
decreases-may_take l = length l.levels.now
