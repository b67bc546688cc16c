use Rattle.std.proofs.Common.{◌≡◌, ◌++◌, drop, map}
use Rattle.mp_pattern.specs.Variables.{form_among}
use Rattle.mp_pattern.specs.PlanView.{names_of, variable}
use Rattle.mp_pattern.specs.UseView.{occurrence}
use Rattle.mp_pattern.proofs.compile.variables_of.Given as goal

abbrev pub invariant-loop-name : goal.invariant-loop-name
invariant-loop-name l = record {
  variables : map variable l.variables.items ++ map (λ x.
      record { name = x; form = form_among l.sig (map occurrence l.occurrences) x })
      (map (λ n. n.now) (drop l.name-index l.names))
      ≡ map (λ x. record { name = x; form = form_among l.sig (map occurrence l.occurrences) x })
      (map (λ n. n.now) l.names);
  names : names_of l.variables.items ++ map (λ n. n.now) (drop l.name-index l.names) ≡ map (λ n. n.now) l.names;
}
