use Rattle.std.proofs.Common.{◌≤◌, ◌++◌, ◌-◌, drop, length, map}
use Rattle.mp_term.specs.Tree.{app, trees}
use Rattle.mp_term.specs.View.{tree}
use Rattle.mp_pattern.specs.Planned.{planned_rule}
use Rattle.mp_rewrite.proofs.Runs.{IsOn}
use Rattle.mp_rewrite.proofs.run.pass_over.Given as goal

-- the steps so far lead to what is kept, what is put in and those that are still to be passed
abbrev pub invariant-loop-made : goal.invariant-loop-made
invariant-loop-made l = record {
  few : l.made ≤ l.max;
  within : l.place ≤ length l.before;
  on : IsOn l.sig (map planned_rule l.rules) l.cancellation
      (app l.cancellation.op.0 (trees (map tree l.before ++ map tree l.behind))) (map tree l.behind) l.kept
      (drop l.place (map tree l.before)) l.made;
}

abbrev pub decreases-loop-made : goal.decreases-loop-made
decreases-loop-made l = length l.before - l.place
