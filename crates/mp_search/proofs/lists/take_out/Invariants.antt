use Rattle.std.proofs.Common.{◌≡◌, ◌≤◌, ◌++◌, length, drop}
use Rattle.mp_term.specs.Pieces.{without}
use Rattle.mp_table.specs.Table.{rank_cmp}
use Rattle.mp_search.proofs.lists.take_out.Given as goal

abbrev pub invariant-loop-item : goal.invariant-loop-item
invariant-loop-item l = record {
  within : l.taken ≤ length l.ranks;
  few : length l.list.items.items ≤ l.item-index;
  room : l.list.room ≡ l.initial.list.room;
  rest : l.list.items.items ++ without rank_cmp (drop l.taken l.ranks) (drop l.item-index l.items)
      ≡ without rank_cmp l.ranks l.items;
}
