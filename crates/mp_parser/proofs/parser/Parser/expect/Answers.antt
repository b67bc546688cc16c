use Rattle.std.proofs.Common.{sym, ◌∙◌, arith}
use Rattle.mp_parser.proofs.Runs.{passes-punct, length-passed}
use Rattle.mp_parser.specs.View.{placed}
use Rattle.mp_parser.proofs.parser.Parser.expect.Goals as goal

pub returns-clause-read : goal.returns-clause-read
returns-clause-read c = passes-punct c.args.punct (placed c.args.self.now.token) _ _ c.advance.ensures
    (sym c.sees.ensures ∙ c.if-not-sees.false)

pub returns-clause-shorter : goal.returns-clause-shorter
returns-clause-shorter c =
    omega (
      arith,
      length-passed c.args.punct (placed c.args.self.now.token) _ _ c.advance.ensures
          (sym c.sees.ensures ∙ c.if-not-sees.false),
    )
