use Rattle.mp_parser.specs.View.{expr_tree}
use Rattle.mp_syntax.proofs.Whole.{expr_is_read, machine-good}
use Rattle.mp_syntax.proofs.expression.alone.Goals as goal

pub returns-in-Ok : goal.returns-in-Ok
returns-in-Ok c = machine-good expr_is_read c.args.bytes.now (expr_tree c.in-Ok.expr)
    (rw c.in-Ok.is at c.parse.ensures)

pub returns-in-Err : goal.returns-in-Err
returns-in-Err c = c.first_error.ensures _ (rw c.in-Err.is at c.parse.ensures)
