use Rattle.mp_parser.specs.View.{condition_tree}
use Rattle.mp_syntax.proofs.Whole.{condition_is_read, machine-good}
use Rattle.mp_syntax.proofs.condition.alone.Goals as goal

pub returns-in-Ok : goal.returns-in-Ok
returns-in-Ok c = machine-good condition_is_read c.args.bytes.now (condition_tree c.in-Ok.condition)
    (rw c.in-Ok.is at c.parse.ensures)

pub returns-in-Err : goal.returns-in-Err
returns-in-Err c = c.first_error.ensures _ (rw c.in-Err.is at c.parse.ensures)
