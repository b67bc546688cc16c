use Rattle.mp_term.proofs.ReplacedLaws.{formed-replaced}
use Rattle.mp_term.proofs.laws.replaced_is_well_formed.Goals as goal

pub returns : goal.returns
returns c = formed-replaced
