use Rattle.std.proofs.Common.{map}
use Rattle.mp_parser.specs.View.{statement_tree}
use Rattle.mp_syntax.proofs.Whole.{file_is_read, machine-good}
use Rattle.mp_syntax.proofs.statement.statements.Goals as goal

pub returns-in-Ok : goal.returns-in-Ok
returns-in-Ok c = machine-good file_is_read c.args.bytes.now (map statement_tree c.in-Ok.statements.items)
    (rw c.in-Ok.is at c.parse.ensures)

pub returns-in-Err : goal.returns-in-Err
returns-in-Err c = c.first_error.ensures _ (rw c.in-Err.is at c.parse.ensures)
