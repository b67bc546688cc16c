use Rattle.mp_term.proofs.ReplacedLaws.{fault-replaced}
use Rattle.mp_term.proofs.laws.one_edit_fails_by_size.Goals as goal

pub returns : goal.returns
returns c = fault-replaced
