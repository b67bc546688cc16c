use Rattle.std.proofs.Common.{◌≡◌, drop, map}
use Rattle.std.specs.List.{AllByRecursion}
use Rattle.mp_term.specs.View.{tree}
use Rattle.mp_rewrite.specs.Computed.{first_match}
use Rattle.mp_pattern.specs.Planned.{IsPlanned, planned_rule, rule_plan}
use Rattle.mp_rewrite.proofs.rules.first_match.Given as goal

-- no rule so far admits anything
abbrev pub invariant-loop-rule : goal.invariant-loop-rule
invariant-loop-rule l = record {
  planned : AllByRecursion (IsPlanned l.sig) (map rule_plan (drop l.rule-index l.rules));
  found : first_match l.sig (map planned_rule (drop l.rule-index l.rules)) (tree l.term)
      ≡ first_match l.sig (map planned_rule l.rules) (tree l.term);
}
