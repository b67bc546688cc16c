use Rattle.std.proofs.Common.{◌≡◌, ◌++◌, drop, map}
use Rattle.mp_ac.specs.Matcher.{number_among}
use Rattle.mp_ac.proofs.comm_matcher.own_numbers.Given as goal

abbrev pub invariant-loop-var : goal.invariant-loop-var
invariant-loop-var l =
    l.numbers.items ++ map (λ y. number_among l.vars l.plan.variables y.name) (drop l.var l.own.variables)
    ≡ map (λ y. number_among l.vars l.plan.variables y.name) l.own.variables
