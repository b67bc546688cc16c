use Rattle.std.proofs.Common.{ap}
use Rattle.mp_parser.specs.Lexing.{token_of}
use Rattle.mp_parser.proofs.parser.Parser.sign.Goals as goal

pub invariant_of-result : goal.invariant_of-result
invariant_of-result c = record { signed = c.args.self.now.token.spelled.sign _ (ap token_of c.in-Sign.is) }
