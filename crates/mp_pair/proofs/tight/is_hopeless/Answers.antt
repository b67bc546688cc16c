use Rattle.std.proofs.Common.{arith}
use Rattle.mp_pair.specs.Bipartite.{lists}
use Rattle.mp_pair.proofs.TightLaws.{tight-hopeless}
use Rattle.mp_pair.proofs.tight.is_hopeless.Goals as goal

pub returns : goal.returns
returns c = λ h. tight-hopeless c.args.marks.now c.args.capacities.now (lists c.args.left.now)
    (omega (arith, c.has_less_room.ensures h))
