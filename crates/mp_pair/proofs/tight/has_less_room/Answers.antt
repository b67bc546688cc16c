use Rattle.std.proofs.Common.{false, arith}
use Rattle.std.specs.Prelude.{slice_index}
use Rattle.mp_pair.proofs.TightLaws.{sum-more}
use Rattle.mp_pair.proofs.tight.has_less_room.Goals as goal

pub loop-i-preserved : goal.loop-i-preserved
loop-i-preserved c = omega (
  arith,
  sum-more
      (λ class. slice_index c.args.capacities.now class) c.args.marks.now c.loop-i.i false (omega arith),
)
