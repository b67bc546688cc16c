use Rattle.std.proofs.Common.{◌≡◌, ◌++◌, drop, map}
use Rattle.std.specs.List.{AllByRecursion}
use Rattle.mp_pattern.specs.RuleView.{rule_tree}
use Rattle.mp_pattern.specs.SoundRule.{IsSoundRule}
use Rattle.mp_pattern.specs.Planned.{IsPlanned, planned_rule, rule_plan}
use Rattle.mp_pattern.proofs.planned.plan_rules.Given as goal

-- the rules so far have their plans
abbrev pub invariant-loop-rule : goal.invariant-loop-rule
invariant-loop-rule l = record {
  sound : AllByRecursion (IsSoundRule l.sig) (map rule_tree (drop l.rule-index l.rules));
  rules : map planned_rule l.all.items ++ map rule_tree (drop l.rule-index l.rules) ≡ map rule_tree l.rules;
  planned : AllByRecursion (IsPlanned l.sig) (map rule_plan l.all.items);
}
