use Rattle.mp_syntax.proofs.Printed.{printed_expr-again}
use Rattle.mp_syntax.proofs.expression.printed_expression_is_read.Goals as goal

pub returns : goal.returns
returns c = printed_expr-again
