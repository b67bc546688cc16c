use Rattle.std.proofs.Common.{refl}
use Rattle.mp_parser.specs.Syntax.{Variable}
use Rattle.mp_parser.specs.Machine.{AfterDollar, AfterExpr, spot}
use Rattle.mp_parser.proofs.Runs.{breaks}
use Rattle.mp_parser.proofs.parser.Parser.behind_dollar.Goals as goal

pub returns-in_err-name-clause-read : goal.returns-in_err-name-clause-read
returns-in_err-name-clause-read c = λ done x k.
    breaks _ _ _ _ _ _ _ c.from_residual.ensures.1 refl
    (c.in_err-name.ensures.read done (AfterDollar x k c.args.place)
    (λ w. AfterExpr x k (Variable (spot w.text c.args.place))) (λ t. refl))

pub returns-clause-read : goal.returns-clause-read
returns-clause-read c = λ done x k. c.in_ok-name.ensures.read done (AfterDollar x k c.args.place)
    (λ w. AfterExpr x k (Variable (spot w.text c.args.place))) (λ t. refl)
