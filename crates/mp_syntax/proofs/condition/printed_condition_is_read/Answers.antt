use Rattle.mp_syntax.proofs.Printed.{printed_condition-again}
use Rattle.mp_syntax.proofs.condition.printed_condition_is_read.Goals as goal

pub returns : goal.returns
returns c = printed_condition-again
