use Rattle.std.proofs.Common.{[], refl, ◌∙◌}
use Rattle.mp_parser.specs.Machine.{AfterOp, AfterOpName, AfterLeast, AfterFlags, declared}
use Rattle.mp_parser.specs.View.{spot_of}
use Rattle.mp_parser.proofs.Runs.{breaks}
use Rattle.mp_syntax.proofs.statement.op.Goals as goal

pub returns-in_err-name-clause-read : goal.returns-in_err-name-clause-read
returns-in_err-name-clause-read c = λ done.
    breaks _ _ _ _ _ _ _ c.from_residual.ensures.1 refl
    (c.in_err-name.ensures.read done AfterOp AfterOpName (λ t. refl))

pub returns-in_err-least-clause-read : goal.returns-in_err-least-clause-read
returns-in_err-least-clause-read c = λ done.
    let name = spot_of c.in_ok-name.name in
    breaks _ _ _ _ _ _ _ c.from_residual-in_err-least.ensures.1
    (c.in_ok-name.ensures.read done AfterOp AfterOpName (λ t. refl))
    (c.in_err-least.ensures.read done (AfterOpName name) (λ w. AfterLeast name w) refl)

pub returns-in_err-flags-clause-read : goal.returns-in_err-flags-clause-read
returns-in_err-flags-clause-read c = λ done.
    let name = spot_of c.in_ok-name.name in
    let least = spot_of c.in_ok-least.least in
    breaks _ _ _ _ _ _ _ c.from_residual-in_err-flags.ensures.1
    (c.in_ok-name.ensures.read done AfterOp AfterOpName (λ t. refl)
    ∙ c.in_ok-least.ensures.read done (AfterOpName name) (λ w. AfterLeast name w) refl
    ∙ c.plus-open.ensures.read done (AfterLeast name least) (λ more. AfterFlags (declared name least more []))
    (λ t. refl))
    (c.in_err-flags.ensures.read done name least c.plus-open.result)

pub returns-clause-read : goal.returns-clause-read
returns-clause-read c = λ done.
    let name = spot_of c.in_ok-name.name in
    let least = spot_of c.in_ok-least.least in
    c.in_ok-name.ensures.read done AfterOp AfterOpName (λ t. refl)
    ∙ c.in_ok-least.ensures.read done (AfterOpName name) (λ w. AfterLeast name w) refl
    ∙ c.plus-open.ensures.read done (AfterLeast name least) (λ more. AfterFlags (declared name least more []))
    (λ t. refl)
    ∙ c.in_ok-flags.ensures.read done name least c.plus-open.result
