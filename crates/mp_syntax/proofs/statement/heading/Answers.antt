use Rattle.std.proofs.Common.{refl, ◌∙◌}
use Rattle.mp_parser.specs.View.{placed, spot_of}
use Rattle.mp_parser.proofs.Runs.{breaks}
use Rattle.mp_syntax.proofs.statement.heading.Goals as goal

pub returns-in_err-name-clause-read : goal.returns-in_err-name-clause-read
returns-in_err-name-clause-read c = λ done at name next has colon.
    breaks _ _ _ _ _ _ _ c.from_residual.ensures.1 refl (c.in_err-name.ensures.read done at name has)

pub returns-in_err-expect-clause-read : goal.returns-in_err-expect-clause-read
returns-in_err-expect-clause-read c = λ done at name next has colon.
    let w = spot_of c.in_ok-name.name in
    breaks _ _ _ _ _ _ _ c.from_residual-in_err-expect.ensures.1 (c.in_ok-name.ensures.read done at name has)
    (c.in_err-expect.ensures.read done (name w) _ (colon w (placed c.word.new.self.token)))

pub returns-clause-read : goal.returns-clause-read
returns-clause-read c = λ done at name next has colon.
    let w = spot_of c.in_ok-name.name in
    c.in_ok-name.ensures.read done at name has
    ∙ c.in_ok-expect.ensures.read done (name w) _ (colon w (placed c.word.new.self.token))
