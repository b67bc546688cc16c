use Rattle.std.proofs.Common.{length}
use Rattle.mp_search.proofs.told.+has_one_way.Given as goal

abbrev pub decreases-has_one_way : goal.decreases-has_one_way
decreases-has_one_way l = length l.later.now
