use Rattle.mp_syntax.proofs.Whole.{condition_is_read, read-unique}
use Rattle.mp_syntax.proofs.condition.condition_is_a_function.Goals as goal

pub returns : goal.returns
returns c = read-unique condition_is_read
