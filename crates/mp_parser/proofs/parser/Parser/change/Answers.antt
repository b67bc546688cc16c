use Rattle.std.proofs.Common.{refl, ◌∙◌}
use Rattle.mp_parser.specs.View.{position_of}
use Rattle.mp_parser.proofs.Runs.{breaks}
use Rattle.mp_parser.proofs.parser.Parser.change.Goals as goal

pub returns-in_err-position-clause-read : goal.returns-in_err-position-clause-read
returns-in_err-position-clause-read c = λ done d.
    breaks _ _ _ _ _ _ _ c.from_residual.ensures.1 refl (c.in_err-position.ensures.read done d)

pub returns-in_err-terms-clause-read : goal.returns-in_err-terms-clause-read
returns-in_err-terms-clause-read c = λ done d.
    breaks _ _ _ _ _ _ _ c.from_residual-in_err-terms.ensures.1
    (c.in_ok-position.ensures.read done d)
    (c.in_err-terms.ensures.read done d (position_of c.in_ok-position.position))

pub returns-clause-read : goal.returns-clause-read
returns-clause-read c = λ done d.
    c.in_ok-position.ensures.read done d
    ∙ c.in_ok-terms.ensures.read done d (position_of c.in_ok-position.position)
