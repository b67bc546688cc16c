use Rattle.std.proofs.Common.{◌≡◌, ◌++◌, drop, map}
use Rattle.mp_pattern.specs.RuleView.{rule_tree}
use Rattle.mp_net.specs.Items.{tables}
use Rattle.mp_net.specs.Nets.{rule_marks}
use Rattle.mp_net.proofs.nets.marks_of.Given as goal

abbrev pub invariant-loop-rule : goal.invariant-loop-rule
invariant-loop-rule l =
    tables l.all.items ++ rule_marks (map rule_tree (drop l.rule-index l.rules)) ≡ rule_marks (map rule_tree l.rules)
