use Rattle.mp_syntax.proofs.Whole.{syntax-names}
use Rattle.mp_syntax.proofs.statement.syntax_has_names.Goals as goal

pub returns : goal.returns
returns c = syntax-names
