use Rattle.std.proofs.Common.{map, ap, ◌∙◌}
use Rattle.std.proofs.lemmas.List.{map_push}
use Rattle.mp_parser.specs.Syntax.{AtomOf}
use Rattle.mp_parser.specs.Machine.{site}
use Rattle.mp_parser.specs.View.{atom_tree, literal_tree}
use Rattle.mp_parser.specs.Parsing.{ahead}
use Rattle.mp_parser.specs.ConditionParsing.{BodyAdded}
use Rattle.mp_parser.proofs.Runs.{breaks-so}
use Rattle.mp_parser.proofs.parser.Parser.plain.Goals as goal

pub returns-in_err-atom-clause-read : goal.returns-in_err-atom-clause-read
returns-in_err-atom-clause-read c =
    let before = map literal_tree c.args.literals.now.items in
    breaks-so (λ r. BodyAdded c.args.room c.args.negated before before r (ahead c.args.self.now)
    (ahead c.atom.new.self)) _ _ c.from_residual.ensures.1
    (λ done x k v len. c.in_err-atom.ensures.read done x k (site v c.args.negated) len)

pub returns-clause-read : goal.returns-clause-read
returns-clause-read c = (
  AtomOf c.args.negated (atom_tree c.in_ok-atom.atom),
  ap (map literal_tree) c.in_ok-push.ensures.items ∙ map_push literal_tree _ _,
  λ done x k v len. c.in_ok-atom.ensures.read done x k (site v c.args.negated) len,
)
