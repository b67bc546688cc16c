use Rattle.std.proofs.Common.{length}
use Rattle.mp_search.proofs.supply.+marks_more.Given as goal

abbrev pub decreases-marks_more : goal.decreases-marks_more
decreases-marks_more l = length l.children.now
