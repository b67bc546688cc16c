use Rattle.std.proofs.Common.{◌≡◌}
use Rattle.std.specs.List.{list_all}
use Rattle.mp_term.specs.NormalTest.{has_head}
use Rattle.mp_table.specs.Table.{terms_at, HasRanks}
use Rattle.mp_cond.proofs.RankParts.{terms_behind}
use Rattle.mp_cond.proofs.rank_lists.have_head.Given as goal

abbrev pub invariant-loop-rank : goal.invariant-loop-rank
invariant-loop-rank l =
    let test = has_head l.op.0 in
    record {
      ranks : HasRanks l.table l.ranks;
      rest : list_all test (terms_behind l.table l.ranks l.rank-index) ≡ list_all test (terms_at l.table l.ranks);
    }
