use Rattle.std.proofs.Common.{◌≡◌, ◌≤◌, length, drop}
use Rattle.mp_table.specs.Table.{rank_cmp}
use Rattle.mp_term.specs.Pieces as pieces
use Rattle.mp_search.proofs.pieces.is_sublist.Given as goal

abbrev pub invariant-loop-item : goal.invariant-loop-item
invariant-loop-item l = record {
  within : l.found ≤ length l.ranks;
  rest : pieces.is_sublist rank_cmp (drop l.found l.ranks) (drop l.item-index l.list)
      ≡ pieces.is_sublist rank_cmp l.ranks l.list;
}
