use Rattle.std.proofs.Common.{sym, ap, subst}
use Rattle.mp_parser.specs.Tokens.{IsFirstPlace}
use Rattle.mp_parser.proofs.FirstPlace.{first_token_place-is}
use Rattle.mp_parser.proofs.lexer.first_token_place.Goals as goal

pub returns : goal.returns
returns c = subst (IsFirstPlace c.args.bytes.now)
    (sym (ap (λ r. r.1) (rw (c.new-lexer.ensures.rest, c.new-lexer.ensures.place) at c.pass_blanks.ensures)))
    (first_token_place-is c.args.bytes.now)
