use Rattle.std.proofs.Common.{sym, ap, ◌∷◌}
use Rattle.mp_parser.specs.Lexing.{token_of, behind}
use Rattle.mp_parser.specs.View.{placed}
use Rattle.mp_parser.proofs.parser.Parser.advance.Goals as goal

pub returns : goal.returns
returns c = ap (λ ts. placed c.args.self.now.token ∷ behind (token_of c.args.self.now.token.kind) ts)
    (sym c.take.ensures)
