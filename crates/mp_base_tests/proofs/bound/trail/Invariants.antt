use Rattle.mp_subst.specs.Trail.{GoesWith}
use Rattle.mp_base_tests.proofs.bound.trail.Given as goal

abbrev pub invariant-loop-row : goal.invariant-loop-row
invariant-loop-row g l = record { goes_with : GoesWith l.table l.trail }
