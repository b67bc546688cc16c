use Rattle.std.proofs.Common.{◌≡◌, ◌+◌, ◌*◌, ◌^◌, ◌≤◌}
use Rattle.mp_term.specs.Size.{all_nodes}
use Rattle.mp_table.specs.Table.{terms_at, HasRanks}
use Rattle.mp_cond.proofs.RankParts.{terms_behind}
use Rattle.mp_cond.proofs.rank_lists.total_nodes.Given as goal

abbrev pub invariant-loop-rank : goal.invariant-loop-rank
invariant-loop-rank l = record {
  ranks : HasRanks l.table l.ranks;
  few : l.total ≤ l.rank-index * 2 ^ 64;
  rest : l.total + all_nodes (terms_behind l.table l.ranks l.rank-index) ≡ all_nodes (terms_at l.table l.ranks);
}
