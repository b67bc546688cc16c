use Rattle.mp_term.proofs.ReplacedLaws.{edited-one}
use Rattle.mp_term.proofs.laws.one_edit_replaces.Goals as goal

pub returns : goal.returns
returns c = edited-one
