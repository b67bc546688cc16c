use Rattle.std.proofs.Common.{length}
use Rattle.mp_ac.proofs.pick.+entry_picked.Given as goal

abbrev pub decreases-entry_picked : goal.decreases-entry_picked
decreases-entry_picked l = length l.children.now
