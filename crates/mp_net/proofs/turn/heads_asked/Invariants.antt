use Rattle.std.proofs.Common.{◌≡◌, ◌++◌, drop, map}
use Rattle.mp_net.specs.View.{mark_of}
use Rattle.mp_net.specs.Items.{tables, opens}
use Rattle.mp_net.specs.Turned.{heads_of}
use Rattle.mp_net.proofs.turn.heads_asked.Given as goal

abbrev pub invariant-loop-item : goal.invariant-loop-item
invariant-loop-item l =
    map mark_of l.heads.items ++ heads_of (opens (tables l.marks) (drop l.item-index l.items))
    ≡ heads_of (opens (tables l.marks) l.items)
