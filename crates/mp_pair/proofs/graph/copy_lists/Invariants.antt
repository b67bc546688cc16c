use Rattle.std.proofs.Common.{◌≡◌, take}
use Rattle.mp_pair.specs.Bipartite.{lists}
use Rattle.mp_pair.proofs.graph.copy_lists.Given as goal

abbrev pub invariant-loop-list : goal.invariant-loop-list
invariant-loop-list l = lists l.copies.items ≡ lists (take l.list-index l.from)
