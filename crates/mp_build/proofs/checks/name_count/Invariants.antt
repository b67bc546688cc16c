use Rattle.std.proofs.Common.{◌≡◌, [], drop, map}
use Rattle.std.specs.Prelude.{flat_map}
use Rattle.std.specs.Str.{bytes_eq}
use Rattle.mp_pattern.specs.Firsts.{firsts_after}
use Rattle.mp_build.specs.Names.{named}
use Rattle.mp_build.specs.ScopeView.{variable_of}
use Rattle.mp_build.proofs.checks.name_count.Given as goal

abbrev pub invariant-loop-variable : goal.invariant-loop-variable
invariant-loop-variable l =
    firsts_after bytes_eq (map (λ n. n.now) l.names.items)
    (flat_map (λ v. named v.name) (map variable_of (drop l.variable-index l.variables)))
    ≡ firsts_after bytes_eq [] (flat_map (λ v. named v.name) (map variable_of l.variables))
