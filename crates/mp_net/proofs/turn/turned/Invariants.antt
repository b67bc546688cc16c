use Rattle.std.proofs.Common.{◌≡◌, take, map}
use Rattle.mp_net.specs.Net as net
use Rattle.mp_net.specs.View.{mark_of}
use Rattle.mp_net.specs.Items.{tables, opens, states}
use Rattle.mp_net.specs.Turned.{AreAscending, HaveHeads, AreAsked, below_each}
use Rattle.mp_net.proofs.turn.turned.Given as goal

abbrev pub invariant-loop-item : goal.invariant-loop-item
invariant-loop-item l = record {
  ascending : AreAscending l.turn.heads.items;
  heads : HaveHeads (opens (tables l.marks) l.items) l.turn.heads.items;
  asked : AreAsked (opens (tables l.marks) l.items) l.turn.heads.items;
  below : states (tables l.marks) l.turn.below.items
      ≡ below_each (opens (tables l.marks) (take l.item-index l.items)) (map mark_of l.turn.heads.items);
  behind : opens (tables l.marks) l.turn.behind.items
      ≡ net.going net.behind (opens (tables l.marks) (take l.item-index l.items));
}
