use Rattle.mp_syntax.proofs.Whole.{file_is_read, read-unique}
use Rattle.mp_syntax.proofs.statement.syntax_is_a_function.Goals as goal

pub returns : goal.returns
returns c = read-unique file_is_read
