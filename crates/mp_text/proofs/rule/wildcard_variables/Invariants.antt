use Rattle.std.proofs.Common.{◌≡◌, ◌++◌, drop, map}
use Rattle.mp_build.specs.ScopeView.{variable_of}
use Rattle.mp_build.specs.WildcardView.{wildcard_view}
use Rattle.mp_text.specs.ReadRule.{wildcard_variable}
use Rattle.mp_text.proofs.rule.wildcard_variables.Given as goal

-- the variables so far stand before those of the other wildcards
abbrev pub invariant-loop-found : goal.invariant-loop-found
invariant-loop-found l =
    map variable_of l.variables.items ++ map wildcard_variable (map wildcard_view (drop l.found-index l.wildcards))
    ≡ map wildcard_variable (map wildcard_view l.wildcards)
