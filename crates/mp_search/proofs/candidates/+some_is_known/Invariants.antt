use Rattle.std.proofs.Common.{length}
use Rattle.mp_search.proofs.candidates.+some_is_known.Given as goal

abbrev pub decreases-some_is_known : goal.decreases-some_is_known
decreases-some_is_known l = length l.children.now
