use Rattle.std.proofs.Common.{◌≡◌, ◌<◌}
use Rattle.mp_term.specs.Tree.{trees}
use Rattle.mp_term.specs.Size.{node_count, all_nodes}
use Rattle.mp_pattern.specs.Holds.{occurs, occurs_in}
use Rattle.mp_table.specs.Table.{term_at, HasRanks}
use Rattle.mp_cond.proofs.RankParts.{terms_behind}
use Rattle.mp_cond.proofs.rank_subterm.+occurs.Given as goal

abbrev pub decreases-occurs : goal.decreases-occurs
decreases-occurs l = node_count (term_at l.table.now l.within)

abbrev pub invariant-loop-arg : goal.invariant-loop-arg
invariant-loop-arg l = record {
  ranks : HasRanks l.table l.arg-items;
  smaller : all_nodes (terms_behind l.table l.arg-items l.arg-index) < node_count (term_at l.table l.fn.within);
  rest : occurs_in (term_at l.table l.rank) (trees (terms_behind l.table l.arg-items l.arg-index))
      ≡ occurs (term_at l.table l.rank) (term_at l.table l.fn.within);
}
