use Rattle.std.proofs.Common.{◌≡◌, drop, map}
use Rattle.mp_build.specs.Scope.{is_bound}
use Rattle.mp_build.specs.ScopeView.{variable_of}
use Rattle.mp_build.proofs.scope.is_bound.Given as goal

abbrev pub invariant-loop-variable : goal.invariant-loop-variable
invariant-loop-variable l = is_bound (map variable_of (drop l.variable-index l.variables)) l.name
    ≡ is_bound (map variable_of l.variables) l.name
