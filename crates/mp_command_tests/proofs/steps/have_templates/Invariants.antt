use Rattle.std.proofs.Common.{◌≡◌, drop, map}
use Rattle.mp_pattern.specs.RuleView.{rule_tree}
use Rattle.mp_command.specs.Outcome.{first_without_template}
use Rattle.mp_command_tests.proofs.steps.have_templates.Given as goal

-- each rule so far has a template
abbrev pub invariant-loop-rule : goal.invariant-loop-rule
invariant-loop-rule l = first_without_template (map rule_tree (drop l.rule-index l.rules))
    ≡ first_without_template (map rule_tree l.rules)
