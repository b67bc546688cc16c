use Rattle.std.proofs.Common.{◌≡◌, ◌+◌, ◌*◌, map, length, drop}
use Rattle.std.specs.Cmp.Lexicographic.{slice_cmp}
use Rattle.mp_term.specs.Order.{tree_cmp}
use Rattle.mp_term.specs.Size.{node_count, all_nodes}
use Rattle.mp_term.specs.View.{tree}
use Rattle.mp_table.specs.Table.{terms_at}
use Rattle.mp_table.proofs.table.Table.+compare_term.Given as goal

abbrev pub decreases-compare_term : goal.decreases-compare_term
decreases-compare_term l = 2 * node_count (tree l.term.now)

abbrev pub decreases-compare_terms : goal.decreases-compare_terms
decreases-compare_terms l = 2 * all_nodes (map tree l.terms.now) + 1

abbrev pub invariant-compare_terms-loop-i : goal.invariant-compare_terms-loop-i
invariant-compare_terms-loop-i l = record {
  lens : length l.ranks ≡ length l.terms;
  rest : slice_cmp tree_cmp (terms_at l.self (drop l.i l.ranks)) (map tree (drop l.i l.terms))
      ≡ slice_cmp tree_cmp (terms_at l.self l.ranks) (map tree l.terms);
}
