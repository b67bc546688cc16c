use Rattle.std.proofs.Common.{ap, subst}
use Rattle.mp_parser.specs.Syntax.{IsSpelled}
use Rattle.mp_parser.proofs.Names.{kind_at-spelled}
use Rattle.mp_parser.proofs.lexer.Lexer.next_behind_blanks.Goals as goal

pub invariant_of-token : goal.invariant_of-token
invariant_of-token c =
    record {
      spelled = subst IsSpelled (ap (λ f. f.0) c.front.ensures) (kind_at-spelled c.pass_blanks.new.self.rest.now);
    }
