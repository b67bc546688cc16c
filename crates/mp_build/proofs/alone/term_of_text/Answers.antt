use Rattle.std.proofs.lemmas.Result.{err_from_is_err_and}
use Rattle.mp_term.specs.View.{tree}
use Rattle.mp_syntax.specs.Begins.{OfExpr}
use Rattle.mp_parser.specs.Syntax.{IsExprOf}
use Rattle.mp_syntax.specs.Reading.{expr_reading}
use Rattle.mp_parser.specs.View.{expr_tree}
use Rattle.mp_build.specs.Alone.{term_alone_faults, normal_term_of}
use Rattle.mp_build.proofs.AloneLaws.{IsReading-expr_reading, answers-syntax, answers-error}
use Rattle.mp_build.proofs.alone.term_of_text.Goals as goal

pub returns-in_err-expr : goal.returns-in_err-expr
returns-in_err-expr c =
    let p = err_from_is_err_and c.from_residual.result c.from_residual.ensures.1 in
    rw (p.1, p.2) (answers-error OfExpr IsExprOf expr_reading IsReading-expr_reading (term_alone_faults c.args.sig.now)
    (normal_term_of c.args.sig.now) tree c.args.bytes.now c.in_err-expr.field-0.0 c.in_err-expr.ensures.fault)

pub returns : goal.returns
returns c = answers-syntax OfExpr IsExprOf expr_reading IsReading-expr_reading (term_alone_faults c.args.sig.now)
    (normal_term_of c.args.sig.now) tree c.args.bytes.now c.term_alone.result
    (expr_tree c.in_ok-expr.expr) c.in_ok-expr.ensures.found c.term_alone.ensures
