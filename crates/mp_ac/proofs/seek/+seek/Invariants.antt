use Rattle.std.proofs.Common.{◌+◌, ◌-◌, ◌*◌, length, map}
use Rattle.mp_pattern.specs.View.{pattern_tree}
use Rattle.mp_ac.proofs.SeekEach.{IsSeeking}
use Rattle.mp_ac.proofs.seek.+seek.Given as goal

abbrev pub decreases-seek : goal.decreases-seek
decreases-seek l = 3 * length l.children.now

abbrev pub decreases-seek_each : goal.decreases-seek_each
decreases-seek_each l = 3 * length l.later.now + 2

abbrev pub decreases-seek_with : goal.decreases-seek_with
decreases-seek_with l = 3 * length l.later.now + 1

abbrev pub invariant-seek_each-loop-at : goal.invariant-seek_each-loop-at
invariant-seek_each-loop-at l = IsSeeking l.sought (pattern_tree l.child) (map pattern_tree l.later) l.left l.fn.own
    l.fn.below l.fn.levels l.fn.trail l.fn.mode l.own l.below l.levels l.trail l.mode l.at

abbrev pub decreases-seek_each-loop-at : goal.decreases-seek_each-loop-at
decreases-seek_each-loop-at l = l.own.end - l.at
