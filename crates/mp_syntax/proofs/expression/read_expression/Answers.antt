use Rattle.mp_parser.specs.Syntax.{IsExprOf, HasNames}
use Rattle.mp_parser.specs.View.{expr_tree}
use Rattle.mp_syntax.proofs.Whole.{expr_is_read, answer-holds, answer-only, answer-fault, expr-names}
use Rattle.mp_syntax.proofs.expression.read_expression.Goals as goal

pub returns-clause-found : goal.returns-clause-found
returns-clause-found c = answer-holds expr_is_read expr_tree c.args.bytes.now c.alone.result (IsExprOf c.args.bytes.now)
    (λ v f. f) c.alone.ensures

pub returns-clause-names : goal.returns-clause-names
returns-clause-names c = answer-holds expr_is_read expr_tree c.args.bytes.now c.alone.result HasNames
    (expr-names c.args.bytes.now) c.alone.ensures

pub returns-clause-only : goal.returns-clause-only
returns-clause-only c = answer-only expr_is_read expr_tree c.args.bytes.now c.alone.result c.alone.ensures

pub returns-clause-fault : goal.returns-clause-fault
returns-clause-fault c = answer-fault expr_is_read expr_tree c.args.bytes.now c.alone.result c.alone.ensures
