use Rattle.mp_syntax.proofs.Whole.{expr_is_read, read-unique}
use Rattle.mp_syntax.proofs.expression.expression_is_a_function.Goals as goal

pub returns : goal.returns
returns c = read-unique expr_is_read
