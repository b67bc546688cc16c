use Rattle.std.proofs.Common.{length}
use Rattle.mp_search.proofs.partner.+some_has_second.Given as goal

abbrev pub decreases-some_has_second : goal.decreases-some_has_second
decreases-some_has_second l = length l.ranks.now
