use Rattle.std.proofs.Common.{◌≡◌, Bool, not}
use Rattle.std.specs.List.{list_all}
use Rattle.mp_term.specs.Tree.{Tree}
use Rattle.mp_pattern.specs.Holds.{occurs}
use Rattle.mp_table.specs.Table.{term_at, terms_at, HasRanks}
use Rattle.mp_cond.proofs.RankParts.{terms_behind}
use Rattle.mp_cond.proofs.rank_subterm.is_free.Given as goal

abbrev pub invariant-loop-other : goal.invariant-loop-other
invariant-loop-other l =
    let free : Tree → Bool = λ u. not (occurs (term_at l.table l.rank) u) in
    record {
      ranks : HasRanks l.table l.others;
      rest : list_all free (terms_behind l.table l.others l.other-index) ≡ list_all free (terms_at l.table l.others);
    }
