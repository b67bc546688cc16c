use Rattle.std.proofs.Common.{◌≡◌, ◌++◌, drop, map}
use Rattle.mp_program.specs.ProgramView.{rule_view}
use Rattle.mp_vm.specs.RuleNeeds.{needs_view, needs_of}
use Rattle.mp_vm.proofs.needs.all_needs.Given as goal

abbrev pub invariant-loop-rule : goal.invariant-loop-rule
invariant-loop-rule l =
    map needs_view l.all.items ++ map (needs_of l.tests) (map rule_view (drop l.rule-index l.rule-items))
    ≡ map (needs_of l.tests) l.rules
