use Rattle.std.proofs.Common.{◌≡◌, ◌+◌, ◌*◌, length, drop}
use Rattle.std.specs.Cmp.Lexicographic.{slice_cmp}
use Rattle.mp_term.specs.Order.{tree_cmp}
use Rattle.mp_term.specs.Size.{node_count, all_nodes}
use Rattle.mp_table.specs.Table.{term_at, terms_at}
use Rattle.mp_walk.proofs.rank_order.+compare_ranks.Given as goal

abbrev pub decreases-compare_ranks : goal.decreases-compare_ranks
decreases-compare_ranks l = 2 * node_count (term_at l.table.now l.rank)

abbrev pub decreases-compare_lists : goal.decreases-compare_lists
decreases-compare_lists l = 2 * all_nodes (terms_at l.table.now l.ranks.now) + 1

abbrev pub invariant-compare_lists-loop-i : goal.invariant-compare_lists-loop-i
invariant-compare_lists-loop-i l = record {
  lens : length l.ranks ≡ length l.others;
  rest : slice_cmp tree_cmp (terms_at l.table (drop l.i l.ranks)) (terms_at l.beside (drop l.i l.others))
      ≡ slice_cmp tree_cmp (terms_at l.table l.ranks) (terms_at l.beside l.others);
}
