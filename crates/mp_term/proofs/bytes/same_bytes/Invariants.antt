use Rattle.std.proofs.Common.{◌≡◌, ◌≤◌, drop, length, true}
use Rattle.std.specs.Prelude.{bytes_eq}
use Rattle.mp_term.proofs.bytes.same_bytes.Given as goal

-- what stands from the place on is the same
abbrev pub invariant-loop-place : goal.invariant-loop-place
invariant-loop-place l = record {
  long : length l.a ≡ length l.b;
  within : l.place ≤ length l.a;
  same : bytes_eq (drop l.place l.a) (drop l.place l.b) ≡ true;
}

abbrev pub decreases-loop-place : goal.decreases-loop-place
decreases-loop-place l = l.place
