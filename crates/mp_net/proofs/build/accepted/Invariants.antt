use Rattle.std.proofs.Common.{◌≡◌, ◌++◌, drop}
use Rattle.std.specs.List.{filter_map}
use Rattle.mp_net.specs.Items.{tables, opens}
use Rattle.mp_net.specs.NetOf.{ended}
use Rattle.mp_net.proofs.build.accepted.Given as goal

abbrev pub invariant-loop-item : goal.invariant-loop-item
invariant-loop-item l =
    l.accepted.items ++ filter_map ended (opens (tables l.marks) (drop l.item-index l.items))
    ≡ filter_map ended (opens (tables l.marks) l.items)
