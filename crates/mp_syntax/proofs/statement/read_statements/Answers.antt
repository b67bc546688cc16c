use Rattle.std.proofs.Common.{map}
use Rattle.mp_parser.specs.Syntax.{IsSyntaxOf, StatementsHaveNames}
use Rattle.mp_parser.specs.View.{statement_tree}
use Rattle.mp_syntax.proofs.Whole.{file_is_read, answer-holds, answer-only, answer-fault, syntax-names}
use Rattle.mp_syntax.proofs.statement.read_statements.Goals as goal

pub returns-clause-found : goal.returns-clause-found
returns-clause-found c = answer-holds file_is_read
    (λ v. map statement_tree v.items) c.args.bytes.now c.statements.result (IsSyntaxOf c.args.bytes.now)
    (λ file f. f) c.statements.ensures

pub returns-clause-names : goal.returns-clause-names
returns-clause-names c = answer-holds file_is_read
    (λ v. map statement_tree v.items) c.args.bytes.now c.statements.result StatementsHaveNames
    (syntax-names c.args.bytes.now) c.statements.ensures

pub returns-clause-only : goal.returns-clause-only
returns-clause-only c = answer-only file_is_read
    (λ v. map statement_tree v.items) c.args.bytes.now c.statements.result c.statements.ensures

pub returns-clause-fault : goal.returns-clause-fault
returns-clause-fault c = answer-fault file_is_read
    (λ v. map statement_tree v.items) c.args.bytes.now c.statements.result c.statements.ensures
