use Rattle.mp_syntax.proofs.Whole.{file_is_read, expr_is_read, condition_is_read, read-total}
use Rattle.mp_syntax.proofs.laws.first_faults_are_total.Goals as goal

pub returns-clause-file : goal.returns-clause-file
returns-clause-file c = read-total file_is_read

pub returns-clause-expression : goal.returns-clause-expression
returns-clause-expression c = read-total expr_is_read

pub returns-clause-condition : goal.returns-clause-condition
returns-clause-condition c = read-total condition_is_read
