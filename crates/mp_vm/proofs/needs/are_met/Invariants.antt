use Rattle.std.proofs.Common.{◌≡◌, drop, map}
use Rattle.mp_vm.specs.Looks.{look_wildcard}
use Rattle.mp_vm.specs.RuleNeeds.{needs_view, meets_all}
use Rattle.mp_vm.proofs.needs.are_met.Given as goal

abbrev pub invariant-loop-rule : goal.invariant-loop-rule
invariant-loop-rule l =
    meets_all (map needs_view l.needs) (map look_wildcard l.looks) (drop l.rule-index l.rules)
    ≡ meets_all (map needs_view l.needs) (map look_wildcard l.looks) l.rules
