use Rattle.std.proofs.Common.{[], refl, ◌∙◌}
use Rattle.mp_parser.specs.Machine.{heading, OfSubject, AfterExpr, InStatement}
use Rattle.mp_parser.specs.View.{spot_of, expr_tree}
use Rattle.mp_parser.proofs.Runs.{breaks}
use Rattle.mp_syntax.proofs.statement.subject.Goals as goal

pub returns-in_err-expect-clause-read : goal.returns-in_err-expect-clause-read
returns-in_err-expect-clause-read c = λ done.
    breaks _ _ _ _ _ _ _ c.from_residual-in_err-expect.ensures.1
    (c.in_ok-name.ensures.read done OfSubject)
    (c.in_err-expect.ensures.read done
    (AfterExpr (InStatement (heading OfSubject (spot_of c.in_ok-name.name))) [] (expr_tree c.in_ok-name.term)) _
    refl)

pub returns-clause-read : goal.returns-clause-read
returns-clause-read c = λ done.
    c.in_ok-name.ensures.read done OfSubject
    ∙ c.in_ok-expect.ensures.read done
    (AfterExpr (InStatement (heading OfSubject (spot_of c.in_ok-name.name))) [] (expr_tree c.in_ok-name.term)) _
    refl
