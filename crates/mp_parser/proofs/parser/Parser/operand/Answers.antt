use Rattle.std.proofs.Common.{sym, ◌<◌, ◌∙◌, arith, ◌∷◌}
use Rattle.mp_parser.specs.declared.limits.TheConstants.{MAX_OPEN}
use Rattle.mp_parser.specs.declared.token.Punct.TheVariants.{Open}
use Rattle.mp_parser.specs.Machine.{Go, BeforeOperand, BeforeExpr, Operand}
use Rattle.mp_parser.proofs.Runs.{over-punct, passes-along}
use Rattle.mp_parser.proofs.ConditionRuns.{open-step}
use Rattle.mp_parser.specs.View.{placed}
use Rattle.mp_parser.proofs.parser.Parser.operand.Goals as goal

pub returns-clause-read : goal.returns-clause-read
returns-clause-read c = λ done x k s lead len.
    let held = sym c.sees.ensures ∙ c.if-not-sees.false in
    let t = placed c.args.self.now.token in
    let some : 0 < c.args.room = omega arith in
    passes-along _ _ _ c.expr.result _ _ _
    (over-punct Open t _ _ c.advance.ensures held done (BeforeOperand x k s lead)
    (Go (BeforeExpr x (Operand s lead ∷ k)))
    (open-step MAX_OPEN x k s lead t c.args.room len some held))
    (c.expr.ensures.read done x (Operand s lead ∷ k) (omega (arith, len, some)))
