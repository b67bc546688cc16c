use Rattle.std.proofs.Common.{◌≡◌, ◌<◌, map, take}
use Rattle.std.specs.List.{AllByRecursion}
use Rattle.mp_pattern.specs.NetTokens.{numbered}
use Rattle.mp_pattern.specs.declared.limits.TheConstants.{MAX_VARIABLES}
use Rattle.mp_ac.proofs.comm_plan.numbers.Given as goal

abbrev pub invariant-loop-var : goal.invariant-loop-var
invariant-loop-var l = record {
  names : map numbered l.vars.items ≡ map (λ v. v.name) (take l.var l.plan.variables);
  few : AllByRecursion (λ v. v < MAX_VARIABLES) l.vars.items;
}
