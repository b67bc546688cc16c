use Rattle.mp_term.specs.View.{tree}
use Rattle.mp_syntax.specs.Begins.{OfExpr}
use Rattle.mp_parser.specs.Syntax.{IsExprOf}
use Rattle.mp_syntax.specs.Reading.{expr_reading}
use Rattle.mp_build.specs.Alone.{term_alone_faults, normal_term_of}
use Rattle.mp_build.proofs.AloneLaws.{IsReading-expr_reading, answers-found, answers-only, answers-fault}
use Rattle.mp_build.proofs.AloneLaws.{answers-only_fault}
use Rattle.mp_build.proofs.alone.read_term.Goals as goal

pub returns-clause-found : goal.returns-clause-found
returns-clause-found c =
    answers-found OfExpr IsExprOf expr_reading IsReading-expr_reading (term_alone_faults c.args.sig.now)
    (normal_term_of c.args.sig.now) tree c.args.bytes.now c.term_of_text.result c.term_of_text.ensures

pub returns-clause-only : goal.returns-clause-only
returns-clause-only c =
    answers-only OfExpr IsExprOf expr_reading IsReading-expr_reading (term_alone_faults c.args.sig.now)
    (normal_term_of c.args.sig.now) tree c.args.bytes.now c.term_of_text.result c.term_of_text.ensures

pub returns-clause-fault : goal.returns-clause-fault
returns-clause-fault c =
    answers-fault OfExpr IsExprOf expr_reading IsReading-expr_reading (term_alone_faults c.args.sig.now)
    (normal_term_of c.args.sig.now) tree c.args.bytes.now c.term_of_text.result c.term_of_text.ensures

pub returns-clause-only_fault : goal.returns-clause-only_fault
returns-clause-only_fault c = answers-only_fault OfExpr IsExprOf expr_reading IsReading-expr_reading
    (term_alone_faults c.args.sig.now) (normal_term_of c.args.sig.now) tree c.args.bytes.now c.term_of_text.result
    c.term_of_text.ensures
