use Rattle.mp_syntax.proofs.Printed.{printed-again}
use Rattle.mp_syntax.proofs.statement.printed_statements_are_read.Goals as goal

pub returns : goal.returns
returns c = printed-again
