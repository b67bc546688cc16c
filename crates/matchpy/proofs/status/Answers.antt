use Rattle.std.proofs.Common.{arith, inr, refl}
use Rattle.matchpy.proofs.status.Goals as goal

pub returns-in-Err-Memory : goal.returns-in-Err-Memory
returns-in-Err-Memory c = inr (8, omega arith, refl)
