use Rattle.std.proofs.Common.{◌≡◌, map, length, drop}
use Rattle.std.specs.Cmp.Lexicographic.{slice_cmp}
use Rattle.mp_term.specs.View.{tree}
use Rattle.mp_term.specs.Order.{tree_cmp}
use Rattle.mp_term.proofs.order.+compare.Given as goal

abbrev pub invariant-compare_all-loop-i : goal.invariant-compare_all-loop-i
invariant-compare_all-loop-i l = record {
  lens : length l.ts ≡ length l.us;
  rest : slice_cmp tree_cmp (map tree (drop l.i l.ts)) (map tree (drop l.i l.us))
      ≡ slice_cmp tree_cmp (map tree l.ts) (map tree l.us);
}
