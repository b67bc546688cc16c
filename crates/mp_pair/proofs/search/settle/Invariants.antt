use Rattle.std.proofs.Common.{take, length}
use Rattle.mp_pair.specs.Bipartite.{lists}
use Rattle.mp_pair.proofs.SearchLaws.{Stands, places_left}
use Rattle.mp_pair.proofs.search.settle.Given as goal

abbrev pub invariant-loop-count : goal.invariant-loop-count
invariant-loop-count l = Stands l.capacities (lists l.left)
    (take l.initial.count l.initial.choice) l.initial.bound l.choice l.count l.bound

abbrev pub decreases-loop-count : goal.decreases-loop-count
decreases-loop-count l = places_left (length l.capacities) (length (lists l.left)) (take l.count l.choice) l.bound
