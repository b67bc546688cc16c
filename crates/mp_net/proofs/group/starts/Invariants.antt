use Rattle.std.proofs.Common.{◌≡◌}
use Rattle.mp_net.specs.Items.{items_from}
use Rattle.mp_net.proofs.group.starts.Given as goal

abbrev pub invariant-loop-index : goal.invariant-loop-index
invariant-loop-index l = l.items.items ≡ items_from l.first l.index
