use Rattle.std.proofs.Common.{◌≡◌, ◌-◌, ◌≤◌, length, drop}
use Rattle.std.specs.Ordering.{nat_cmp}
use Rattle.std.specs.Cmp.Lexicographic.{slice_cmp}
use Rattle.mp_term.proofs.name.compare_bytes.Given as goal

abbrev pub invariant-loop-place : goal.invariant-loop-place
invariant-loop-place l = record {
  in_a : l.place ≤ length l.a;
  in_b : l.place ≤ length l.b;
  rest : slice_cmp nat_cmp (drop l.place l.a) (drop l.place l.b) ≡ slice_cmp nat_cmp l.a l.b;
}

abbrev pub decreases-loop-place : goal.decreases-loop-place
decreases-loop-place l = length l.a - l.place
