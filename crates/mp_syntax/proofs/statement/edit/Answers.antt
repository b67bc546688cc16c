use Rattle.std.proofs.Common.{[], refl, ◌∙◌}
use Rattle.mp_parser.specs.Machine.{AfterEdit, AfterSubject, BeforeChange, edited}
use Rattle.mp_parser.specs.View.{spot_of}
use Rattle.mp_parser.proofs.Runs.{breaks}
use Rattle.mp_syntax.proofs.statement.edit.Goals as goal

pub returns-in_err-subject-clause-read : goal.returns-in_err-subject-clause-read
returns-in_err-subject-clause-read c = λ done.
    breaks _ _ _ _ _ _ _ c.from_residual.ensures.1 refl
    (c.in_err-subject.ensures.read done AfterEdit AfterSubject (λ w. BeforeChange (edited w [])) (λ t. refl)
    (λ w t. refl))

pub returns-in_err-changes-clause-read : goal.returns-in_err-changes-clause-read
returns-in_err-changes-clause-read c = λ done.
    breaks _ _ _ _ _ _ _ c.from_residual-in_err-changes.ensures.1
    (c.in_ok-subject.ensures.read done AfterEdit AfterSubject (λ w. BeforeChange (edited w [])) (λ t. refl)
    (λ w t. refl))
    (c.in_err-changes.ensures.read done (spot_of c.in_ok-subject.subject))

pub returns-clause-read : goal.returns-clause-read
returns-clause-read c = λ done.
    c.in_ok-subject.ensures.read done AfterEdit AfterSubject (λ w. BeforeChange (edited w [])) (λ t. refl)
    (λ w t. refl)
    ∙ c.in_ok-changes.ensures.read done (spot_of c.in_ok-subject.subject)
