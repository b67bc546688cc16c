use Rattle.std.proofs.Common.{length}
use Rattle.mp_ac.proofs.comm_plans.CommPlans.+add_from.Given as goal

abbrev pub decreases-add_from : goal.decreases-add_from
decreases-add_from l = length l.later.now
