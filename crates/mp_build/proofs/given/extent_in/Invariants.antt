use Rattle.std.proofs.Common.{◌≡◌, drop, map}
use Rattle.mp_build.specs.Scope.{extent_in}
use Rattle.mp_build.specs.ScopeView.{variable_of}
use Rattle.mp_build.proofs.given.extent_in.Given as goal

abbrev pub invariant-loop-variable : goal.invariant-loop-variable
invariant-loop-variable l = extent_in (map variable_of (drop l.variable-index l.variables)) l.name
    ≡ extent_in (map variable_of l.variables) l.name
