use Rattle.std.proofs.Common.{length}
use Rattle.mp_search.proofs.shares.+shares_of.Given as goal

abbrev pub decreases-shares_of : goal.decreases-shares_of
decreases-shares_of l = length l.children.now
