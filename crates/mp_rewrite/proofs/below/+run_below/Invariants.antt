use Rattle.std.proofs.Common.{◌+◌, ◌*◌, ◌-◌, ◌≤◌, map}
use Rattle.mp_pattern.specs.Planned.{planned_rule}
use Rattle.mp_rewrite.specs.Within.{IsRunWithin}
use Rattle.mp_rewrite.proofs.below.+run_below.Given as goal

-- a term is never deeper than a term may be
abbrev pub decreases-run_below : goal.decreases-run_below
decreases-run_below l = 3 * (101 - l.levels) + 2

abbrev pub decreases-run_once : goal.decreases-run_once
decreases-run_once l = 3 * (101 - l.levels) + 1

abbrev pub decreases-run_argument : goal.decreases-run_argument
decreases-run_argument l = 3 * (101 - l.levels)

abbrev pub invariant-run_below-loop-made : goal.invariant-run_below-loop-made
invariant-run_below-loop-made l = record {
  few : l.made ≤ l.max;
  run : IsRunWithin l.sig (map planned_rule l.rules) l.levels l.fn.here (record { here = l.here; made = l.made });
}

abbrev pub decreases-run_below-loop-made : goal.decreases-run_below-loop-made
decreases-run_below-loop-made l = l.max - l.made
