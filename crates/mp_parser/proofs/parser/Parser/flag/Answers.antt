use Rattle.std.proofs.Common.{refl, ◌∙◌}
use Rattle.mp_parser.specs.Syntax.{Infixed}
use Rattle.mp_parser.specs.Machine.{AfterFlags, AfterInfix, with_flag}
use Rattle.mp_parser.proofs.Runs.{breaks}
use Rattle.mp_parser.proofs.parser.Parser.flag.Goals as goal

pub returns-in_err-sign-in-Infix-clause-read : goal.returns-in_err-sign-in-Infix-clause-read
returns-in_err-sign-in-Infix-clause-read c = λ done d.
    breaks _ _ _ _ _ _ _ c.from_residual-in_err-sign-in-Infix.ensures.1
    (rw c.in-Infix.is at (c.in_ok-flag_word.ensures.read done d))
    (c.in_err-sign-in-Infix.ensures.read done (AfterInfix d) (λ s. AfterFlags (with_flag d (Infixed s))) (λ t. refl))

pub returns-in_ok-sign-in-Infix-clause-read : goal.returns-in_ok-sign-in-Infix-clause-read
returns-in_ok-sign-in-Infix-clause-read c = λ done d.
    (rw c.in-Infix.is at (c.in_ok-flag_word.ensures.read done d))
    ∙ c.in_ok-sign-in-Infix.ensures.read done (AfterInfix d) (λ s. AfterFlags (with_flag d (Infixed s))) (λ t. refl)
