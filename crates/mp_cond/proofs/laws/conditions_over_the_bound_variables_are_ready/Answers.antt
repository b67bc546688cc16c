use Rattle.mp_cond.proofs.ReadyLaws.{IsReady-over}
use Rattle.mp_cond.proofs.laws.conditions_over_the_bound_variables_are_ready.Goals as goal

pub returns : goal.returns
returns c = IsReady-over
