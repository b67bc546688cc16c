use Rattle.std.proofs.Common.{◌+◌, map, drop, arith, ap}
use Rattle.std.proofs.lemmas.Result.{err_from_is_err_and}
use Rattle.mp_term.specs.Normal.{normal}
use Rattle.mp_term.proofs.ListLaws.{drop-item}
use Rattle.mp_parser.specs.View.{expr_tree}
use Rattle.mp_build.specs.Build.{term_of}
use Rattle.mp_build.specs.Checks.{term_faults}
use Rattle.mp_build.proofs.BuiltLists.{built-next, fails-next}
use Rattle.mp_build.proofs.edit.normal_terms.Goals as goal

pub returns-in_err-term : goal.returns-in_err-term
returns-in_err-term c =
    let p = err_from_is_err_and c.from_residual-in_err-term.result c.from_residual-in_err-term.ensures.1 in
    let here = drop-item c.args.exprs.now c.loop-expr.expr-index c.expr-item.result
    (omega arith) c.expr-item.is in
    let sig = c.args.sig.now in
    rw (p.1, p.2)
    (fails-next (term_faults sig) (λ t. normal sig (term_of sig t)) c.in_err-term.field-0.0 c.loop-expr.terms _ _ _ _
    (ap (map expr_tree) here) c.loop-expr.invariant c.in_err-term.ensures)

pub loop-expr-preserved : goal.loop-expr-preserved
loop-expr-preserved c =
    let here = drop-item c.args.exprs.now c.loop-expr.expr-index c.expr-item.result
    (omega arith) c.expr-item.is in
    let sig = c.args.sig.now in
    built-next (term_faults sig) (λ t. normal sig (term_of sig t)) c.loop-expr.terms _ (expr_tree c.expr-item.result)
    (map expr_tree (drop (c.loop-expr.expr-index + 1) c.args.exprs.now)) _ _ _
    (ap (map expr_tree) here) c.loop-expr.invariant c.in_ok-term.ensures.0 c.in_ok-term.ensures.1
    c.in_ok-push.ensures.ok
