use Rattle.std.proofs.Common.{arith}
use Rattle.mp_pair.specs.Bipartite.{lists}
use Rattle.mp_pair.proofs.TightLaws.{full-dead_end}
use Rattle.mp_pair.proofs.search.leads_on.Goals as goal

pub returns-then-not-has_room : goal.returns-then-not-has_room
returns-then-not-has_room c = full-dead_end c.args.capacities.now (lists c.args.left.now) c.args.chosen.now c.args.class
    (λ r. grind (arith, c.has_room.ensures.1 r, c.if-not-has_room.true))
