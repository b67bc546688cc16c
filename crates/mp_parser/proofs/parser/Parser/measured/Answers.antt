use Rattle.std.proofs.Common.{◌∷◌, refl, ◌∙◌}
use Rattle.mp_parser.specs.Machine.{AfterExpr, Operand, OfMeasure}
use Rattle.mp_parser.specs.View.{expr_tree}
use Rattle.mp_parser.proofs.Runs.{breaks}
use Rattle.mp_parser.proofs.parser.Parser.measured.Goals as goal

pub returns-in_err-operand-clause-read : goal.returns-in_err-operand-clause-read
returns-in_err-operand-clause-read c = λ done x k s side m len.
    breaks _ _ _ _ _ _ _ c.from_residual.ensures.1 refl
    (c.in_err-operand.ensures.read done x k s (OfMeasure side m) len)

pub returns-in_err-expect-clause-read : goal.returns-in_err-expect-clause-read
returns-in_err-expect-clause-read c = λ done x k s side m len.
    breaks _ _ _ _ _ _ _ c.from_residual-in_err-expect.ensures.1
    (c.in_ok-operand.ensures.read done x k s (OfMeasure side m) len)
    (c.in_err-expect.ensures.read done
    (AfterExpr x (Operand s (OfMeasure side m) ∷ k) (expr_tree c.in_ok-operand.operand)) _ refl)

pub returns-clause-read : goal.returns-clause-read
returns-clause-read c = λ done x k s side m len.
    c.in_ok-operand.ensures.read done x k s (OfMeasure side m) len
    ∙ c.in_ok-expect.ensures.read done
    (AfterExpr x (Operand s (OfMeasure side m) ∷ k) (expr_tree c.in_ok-operand.operand)) _ refl
