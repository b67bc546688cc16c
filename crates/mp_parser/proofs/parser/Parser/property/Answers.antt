use Rattle.std.proofs.Common.{◌∷◌, refl, ◌∙◌}
use Rattle.mp_parser.specs.Machine.{AfterExpr, BeforeName, BehindName, Operand, OfProperty}
use Rattle.mp_parser.specs.View.{spot_of, expr_tree}
use Rattle.mp_parser.proofs.Runs.{breaks}
use Rattle.mp_parser.proofs.parser.Parser.property.Goals as goal

pub returns-in_err-operand-clause-read : goal.returns-in_err-operand-clause-read
returns-in_err-operand-clause-read c = λ done x k s len.
    breaks _ _ _ _ _ _ _ c.from_residual.ensures.1 refl
    (c.in_err-operand.ensures.read done x k s (OfProperty c.args.property) len)

pub returns-in_err-expect-clause-read : goal.returns-in_err-expect-clause-read
returns-in_err-expect-clause-read c = λ done x k s len.
    breaks _ _ _ _ _ _ _ c.from_residual-in_err-expect.ensures.1
    (c.in_ok-operand.ensures.read done x k s (OfProperty c.args.property) len)
    (c.in_err-expect.ensures.read done
    (AfterExpr x (Operand s (OfProperty c.args.property) ∷ k) (expr_tree c.in_ok-operand.operand)) _ refl)

pub returns-in_err-name-clause-read : goal.returns-in_err-name-clause-read
returns-in_err-name-clause-read c = λ done x k s len.
    let e = expr_tree c.in_ok-operand.operand in
    breaks _ _ _ _ _ _ _ c.from_residual-in_err-name.ensures.1
    (c.in_ok-operand.ensures.read done x k s (OfProperty c.args.property) len
    ∙ c.in_ok-expect.ensures.read done (AfterExpr x (Operand s (OfProperty c.args.property) ∷ k) e) _ refl)
    (c.in_err-name.ensures.read done (BeforeName x k s c.args.property e) (λ w. BehindName x k s c.args.property e w)
    (λ t. refl))

pub returns-in_err-expect-2-clause-read : goal.returns-in_err-expect-2-clause-read
returns-in_err-expect-2-clause-read c = λ done x k s len.
    let e = expr_tree c.in_ok-operand.operand in
    breaks _ _ _ _ _ _ _ c.from_residual-in_err-expect-2.ensures.1
    (c.in_ok-operand.ensures.read done x k s (OfProperty c.args.property) len
    ∙ c.in_ok-expect.ensures.read done (AfterExpr x (Operand s (OfProperty c.args.property) ∷ k) e) _ refl
    ∙ c.in_ok-name.ensures.read done (BeforeName x k s c.args.property e) (λ w. BehindName x k s c.args.property e w)
    (λ t. refl))
    (c.in_err-expect-2.ensures.read done (BehindName x k s c.args.property e (spot_of c.in_ok-name.name)) _ refl)

pub returns-clause-read : goal.returns-clause-read
returns-clause-read c = λ done x k s len.
    let e = expr_tree c.in_ok-operand.operand in
    c.in_ok-operand.ensures.read done x k s (OfProperty c.args.property) len
    ∙ c.in_ok-expect.ensures.read done (AfterExpr x (Operand s (OfProperty c.args.property) ∷ k) e) _ refl
    ∙ c.in_ok-name.ensures.read done (BeforeName x k s c.args.property e) (λ w. BehindName x k s c.args.property e w)
    (λ t. refl)
    ∙ c.in_ok-expect-2.ensures.read done (BehindName x k s c.args.property e (spot_of c.in_ok-name.name)) _ refl
