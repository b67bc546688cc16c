use Rattle.std.proofs.Common.{◌≡◌, drop}
use Rattle.mp_theory.specs.Solve as solve
use Rattle.mp_one.specs.TrailValue.{trail_value}
use Rattle.mp_one.specs.Trail.{trail_of}
use Rattle.mp_one.proofs.TrailBindings.{bound_rest, behind}
use Rattle.mp_one.proofs.trail.bind.Given as goal

abbrev pub invariant-loop-bound : goal.invariant-loop-bound
invariant-loop-bound l = behind (trail_of l.after.items)
    (bound_rest l.is_bound (trail_of (drop l.bound-index l.trail)) l.name (trail_value l.value))
    ≡ solve.bind (trail_of l.trail) l.name (trail_value l.value)
