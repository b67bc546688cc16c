use Rattle.std.proofs.Common.{length}
use Rattle.mp_search.proofs.rivals.+nth_place_from.Given as goal

abbrev pub decreases-nth_place_from : goal.decreases-nth_place_from
decreases-nth_place_from l = length l.children.now
