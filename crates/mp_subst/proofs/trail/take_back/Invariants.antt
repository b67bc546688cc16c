use Rattle.std.proofs.Common.{◌≡◌, ◌≤◌, length, take}
use Rattle.mp_subst.specs.TrailView.{AreLast}
use Rattle.mp_subst.proofs.trail.take_back.Given as goal

abbrev pub invariant-loop-left : goal.invariant-loop-left
invariant-loop-left l = record {
  from : l.kept ≤ l.left;
  within : l.left ≤ length l.entries;
  last : AreLast l.last (take l.left l.entries);
  count : length l.last ≡ length l.fn.last;
}

abbrev pub decreases-loop-left : goal.decreases-loop-left
decreases-loop-left l = l.left
