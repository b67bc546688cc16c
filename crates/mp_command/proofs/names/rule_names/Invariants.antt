use Rattle.std.proofs.Common.{◌≡◌, ◌++◌, drop, map}
use Rattle.mp_matches.specs.PairsListed.{named}
use Rattle.mp_pattern.specs.RuleView.{rule_tree}
use Rattle.mp_command.proofs.names.rule_names.Given as goal

abbrev pub invariant-loop-rule : goal.invariant-loop-rule
invariant-loop-rule l =
    named l.names.items ++ map (λ r. r.name) (map rule_tree (drop l.rule-index l.rules))
    ≡ map (λ r. r.name) (map rule_tree l.rules)
