-- The plan of the children that don't take one term each.
use Rattle.mp_ac.specs.declared.comm_plan.CommPlan.{CommPlan}
use Rattle.mp_ac.specs.declared.planned.Planned.{Planned}
use Rattle.mp_ac.specs.declared.planned.Planned.TheVariants.{Kept, Own}

-- the plan, wherever it is kept
abbrev pub plan_of : Planned → CommPlan
plan_of (Kept p) = p.now
plan_of (Own p) = p
