use Rattle.std.proofs.Common.{◌≡◌, [], ◌∷◌, length, map, take}
use Rattle.mp_net.specs.View.{mark_of}
use Rattle.mp_net.specs.Items.{listed, joined, item_below}
use Rattle.mp_net.proofs.turn.enter_each.Given as goal

abbrev pub invariant-loop-index : goal.invariant-loop-index
invariant-loop-index l = record {
  count : length l.lists.items ≡ length l.heads;
  lists : listed l.lists.items
      ≡ joined (listed l.initial.lists.items) (map (λ h. item_below (mark_of h) l.fn.behind ∷ [])
      (take l.index l.heads));
}
