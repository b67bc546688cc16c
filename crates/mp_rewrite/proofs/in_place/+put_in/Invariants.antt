use Rattle.std.proofs.Common.{length}
use Rattle.mp_rewrite.proofs.in_place.+put_in.Given as goal

abbrev pub decreases-put_in : goal.decreases-put_in
decreases-put_in l = length l.position.now
