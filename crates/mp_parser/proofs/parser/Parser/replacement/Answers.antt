use Rattle.std.proofs.Common.{[], refl, sym, ◌∙◌}
use Rattle.mp_parser.specs.declared.token.Punct.TheVariants.{OpenSquare}
use Rattle.mp_parser.specs.Machine.{Go, InChange, AfterArrow, AfterSquare}
use Rattle.mp_parser.specs.View.{placed, expr_tree}
use Rattle.mp_parser.specs.Parsing.{ahead}
use Rattle.mp_parser.proofs.Runs.{breaks, over-punct}
use Rattle.mp_parser.proofs.EditRuns.{list-opens, single-begins, single-ends}
use Rattle.mp_parser.proofs.parser.Parser.replacement.Goals as goal

pub returns-in_err-expr-clause-read : goal.returns-in_err-expr-clause-read
returns-in_err-expr-clause-read c = λ done d p.
    breaks _ _ _ _ _ _ _ c.from_residual.ensures.1
    (single-begins done d p (placed c.args.self.now.token) _ (sym c.sees.ensures ∙ c.if-not-sees.true))
    (c.in_err-expr.ensures.read done (InChange d p) [] refl)

pub returns-then-not-sees-clause-read : goal.returns-then-not-sees-clause-read
returns-then-not-sees-clause-read c = λ done d p.
    single-begins done d p (placed c.args.self.now.token) _ (sym c.sees.ensures ∙ c.if-not-sees.true)
    ∙ c.in_ok-expr.ensures.read done (InChange d p) [] refl
    ∙ single-ends done d p (expr_tree c.in_ok-expr.expr) (ahead c.expr.new.self)

pub returns-in_err-exprs-clause-read : goal.returns-in_err-exprs-clause-read
returns-in_err-exprs-clause-read c = λ done d p.
    let held = sym c.sees.ensures ∙ c.if-not-sees.false in
    breaks _ _ _ _ _ _ _ c.from_residual-in_err-exprs.ensures.1
    (over-punct OpenSquare (placed c.args.self.now.token) _ _ c.advance.ensures held done (AfterArrow d p)
    (Go (AfterSquare d p)) (list-opens d p (placed c.args.self.now.token) held))
    (c.in_err-exprs.ensures.read done d p)

pub returns-clause-read : goal.returns-clause-read
returns-clause-read c = λ done d p.
    let held = sym c.sees.ensures ∙ c.if-not-sees.false in
    over-punct OpenSquare (placed c.args.self.now.token) _ _ c.advance.ensures held done (AfterArrow d p)
    (Go (AfterSquare d p)) (list-opens d p (placed c.args.self.now.token) held)
    ∙ c.in_ok-exprs.ensures.read done d p
