use Rattle.std.proofs.Common.{[], refl, ◌∙◌}
use Rattle.mp_parser.specs.Machine.{heading, AfterRole, AfterName, BeforeExpr, InStatement}
use Rattle.mp_parser.specs.View.{spot_of}
use Rattle.mp_parser.proofs.Runs.{breaks}
use Rattle.mp_syntax.proofs.statement.named_expr.Goals as goal

pub returns-in_err-name-clause-read : goal.returns-in_err-name-clause-read
returns-in_err-name-clause-read c = λ done role.
    breaks _ _ _ _ _ _ _ c.from_residual.ensures.1 refl
    (c.in_err-name.ensures.read done (AfterRole role) (λ w. AfterName (heading role w))
    (λ w. BeforeExpr (InStatement (heading role w)) []) (λ t. refl) (λ w t. refl))

pub returns-in_err-expr-clause-read : goal.returns-in_err-expr-clause-read
returns-in_err-expr-clause-read c = λ done role.
    breaks _ _ _ _ _ _ _ c.from_residual-in_err-expr.ensures.1
    (c.in_ok-name.ensures.read done (AfterRole role) (λ w. AfterName (heading role w))
    (λ w. BeforeExpr (InStatement (heading role w)) []) (λ t. refl) (λ w t. refl))
    (c.in_err-expr.ensures.read done (InStatement (heading role (spot_of c.in_ok-name.name))) [] refl)

pub returns-clause-read : goal.returns-clause-read
returns-clause-read c = λ done role.
    c.in_ok-name.ensures.read done (AfterRole role) (λ w. AfterName (heading role w))
    (λ w. BeforeExpr (InStatement (heading role w)) []) (λ t. refl) (λ w t. refl)
    ∙ c.in_ok-expr.ensures.read done (InStatement (heading role (spot_of c.in_ok-name.name))) [] refl
