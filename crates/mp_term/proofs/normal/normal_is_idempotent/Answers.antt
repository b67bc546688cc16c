use Rattle.mp_term.proofs.NormalSize.{normal-normal}
use Rattle.mp_term.proofs.normal.normal_is_idempotent.Goals as goal

pub returns : goal.returns
returns c = normal-normal
