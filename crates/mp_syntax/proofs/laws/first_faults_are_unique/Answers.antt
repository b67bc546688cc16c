use Rattle.mp_syntax.proofs.OneFault.{one-fault}
use Rattle.mp_syntax.proofs.laws.first_faults_are_unique.Goals as goal

pub returns : goal.returns
returns c = one-fault
