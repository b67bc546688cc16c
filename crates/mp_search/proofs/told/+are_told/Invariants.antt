use Rattle.std.proofs.Common.{length}
use Rattle.mp_search.proofs.told.+are_told.Given as goal

abbrev pub decreases-are_told : goal.decreases-are_told
decreases-are_told l = length l.children.now
