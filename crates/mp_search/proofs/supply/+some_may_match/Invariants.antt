use Rattle.std.proofs.Common.{length}
use Rattle.mp_search.proofs.supply.+some_may_match.Given as goal

abbrev pub decreases-some_may_match : goal.decreases-some_may_match
decreases-some_may_match l = length l.children.now
