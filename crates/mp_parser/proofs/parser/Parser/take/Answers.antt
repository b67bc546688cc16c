use Rattle.std.proofs.Common.{sym}
use Rattle.mp_parser.proofs.Fuel.{lexemes-next}
use Rattle.mp_parser.proofs.parser.Parser.take.Goals as goal

pub returns : goal.returns
returns c = sym (lexemes-next _ _ _ _ _ c.next_token.ensures)
