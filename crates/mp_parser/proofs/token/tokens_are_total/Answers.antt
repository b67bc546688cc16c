use Rattle.mp_parser.proofs.TokensTotal.{tokens-total}
use Rattle.mp_parser.proofs.token.tokens_are_total.Goals as goal

pub returns : goal.returns
returns c = tokens-total
