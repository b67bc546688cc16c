use Rattle.std.proofs.Common.{◌≡◌, take, map}
use Rattle.mp_build.specs.Scope.{plan_variables}
use Rattle.mp_build.specs.ScopeView.{variable_of}
use Rattle.mp_build.proofs.scope.plan_variables.Given as goal

-- the variables so far
abbrev pub invariant-loop-number : goal.invariant-loop-number
invariant-loop-number l = map variable_of l.variables.items ≡ take l.number (plan_variables l.plan)
