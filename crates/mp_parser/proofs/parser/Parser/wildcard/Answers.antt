use Rattle.std.proofs.Common.{ap}
use Rattle.mp_parser.specs.Lexing.{token_of}
use Rattle.mp_parser.proofs.parser.Parser.wildcard.Goals as goal

pub invariant_of-result : goal.invariant_of-result
invariant_of-result c = record { parts = c.args.self.now.token.spelled.wildcard _ (ap token_of c.in-Wildcard.is) }
