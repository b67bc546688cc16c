use Rattle.std.proofs.Common.{[], refl, ◌∙◌}
use Rattle.mp_parser.specs.Machine.{AfterKind, AfterKindName, BeforeMember}
use Rattle.mp_parser.specs.View.{spot_of}
use Rattle.mp_parser.proofs.Runs.{breaks}
use Rattle.mp_syntax.proofs.statement.kind.Goals as goal

pub returns-in_err-name-clause-read : goal.returns-in_err-name-clause-read
returns-in_err-name-clause-read c = λ done.
    breaks _ _ _ _ _ _ _ c.from_residual.ensures.1 refl
    (c.in_err-name.ensures.read done AfterKind AfterKindName (λ w. BeforeMember w []) (λ t. refl) (λ w t. refl))

pub returns-in_err-members-clause-read : goal.returns-in_err-members-clause-read
returns-in_err-members-clause-read c = λ done.
    breaks _ _ _ _ _ _ _ c.from_residual-in_err-members.ensures.1
    (c.in_ok-name.ensures.read done AfterKind AfterKindName (λ w. BeforeMember w []) (λ t. refl) (λ w t. refl))
    (c.in_err-members.ensures.read done (spot_of c.in_ok-name.name))

pub returns-clause-read : goal.returns-clause-read
returns-clause-read c = λ done.
    c.in_ok-name.ensures.read done AfterKind AfterKindName (λ w. BeforeMember w []) (λ t. refl) (λ w t. refl)
    ∙ c.in_ok-members.ensures.read done (spot_of c.in_ok-name.name)
