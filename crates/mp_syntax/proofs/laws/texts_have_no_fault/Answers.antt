use Rattle.mp_syntax.proofs.Whole.{file_is_read, expr_is_read, condition_is_read, read-no_fault}
use Rattle.mp_syntax.proofs.laws.texts_have_no_fault.Goals as goal

pub returns-clause-file : goal.returns-clause-file
returns-clause-file c = read-no_fault file_is_read

pub returns-clause-expression : goal.returns-clause-expression
returns-clause-expression c = read-no_fault expr_is_read

pub returns-clause-condition : goal.returns-clause-condition
returns-clause-condition c = read-no_fault condition_is_read
