use Rattle.std.proofs.Common.{◌≡◌, Bool, not}
use Rattle.std.specs.List.{list_all}
use Rattle.mp_term.specs.Tree.{Tree}
use Rattle.mp_pattern.specs.Holds.{occurs}
use Rattle.mp_table.specs.Table.{terms_at, HasRanks}
use Rattle.mp_cond.proofs.RankParts.{terms_behind}
use Rattle.mp_cond.proofs.rank_subterm.are_free.Given as goal

abbrev pub invariant-loop-rank : goal.invariant-loop-rank
invariant-loop-rank l =
    let free : Tree → Bool = λ t. list_all (λ u. not (occurs t u)) (terms_at l.table l.others) in
    record {
      ranks : HasRanks l.table l.ranks;
      rest : list_all free (terms_behind l.table l.ranks l.rank-index) ≡ list_all free (terms_at l.table l.ranks);
    }
