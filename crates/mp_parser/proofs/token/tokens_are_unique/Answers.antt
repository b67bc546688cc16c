use Rattle.mp_parser.proofs.TokensTotal.{tokens-unique}
use Rattle.mp_parser.proofs.token.tokens_are_unique.Goals as goal

pub returns : goal.returns
returns c = tokens-unique
