use Rattle.std.proofs.Common.{◌≡◌, map, length, drop}
use Rattle.std.specs.Cmp.Lexicographic.{slice_cmp}
use Rattle.mp_pattern.specs.View.{pattern_tree}
use Rattle.mp_pattern.specs.Order.{pattern_cmp}
use Rattle.mp_pattern.proofs.order.+pattern_compare.Given as goal

abbrev pub invariant-compare_all-loop-i : goal.invariant-compare_all-loop-i
invariant-compare_all-loop-i l = record {
  lens : length l.ps ≡ length l.qs;
  rest : slice_cmp pattern_cmp (map pattern_tree (drop l.i l.ps)) (map pattern_tree (drop l.i l.qs))
      ≡ slice_cmp pattern_cmp (map pattern_tree l.ps) (map pattern_tree l.qs);
}
