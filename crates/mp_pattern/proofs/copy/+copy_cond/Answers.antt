use Rattle.std.proofs.Common.{arith}
use Rattle.std.proofs.lemmas.Grind.{common_steps}
use Rattle.mp_pattern.proofs.copy.+copy_cond.Goals as goal

pub copy_conds-loop-part-preserved : goal.copy_conds-loop-part-preserved
copy_conds-loop-part-preserved t c = grind (arith, common_steps)
