-- Rules with the plans of their patterns and with their constants.
use Rattle.std.specs.Prelude.{List, [], ◌∷◌}
use Rattle.mp_term.specs.Tree.{Tree}
use Rattle.mp_term.specs.Order.{tree_cmp}
use Rattle.mp_term.specs.Listing.{IsListing}
use Rattle.mp_term.specs.Signature.{Sig}
use Rattle.mp_pattern.specs.Admission.{Rule}
use Rattle.mp_pattern.specs.Constants.{IsConstantOf}
use Rattle.mp_pattern.specs.RuleView.{rule_tree}
use Rattle.mp_pattern.specs.SoundRule.{IsSoundRule}
use Rattle.mp_pattern.specs.Plan.{Plan, IsPlanOf}
use Rattle.mp_pattern.specs.declared.planned.PlannedRule.{PlannedRule}

-- a rule, a plan and terms
pub record RulePlan : Type 0 where
  pub rule : Rule
  pub plan : Plan
  pub constants : List Tree

-- as plain data
abbrev pub rule_plan : PlannedRule → RulePlan
rule_plan p = record { rule = rule_tree p.rule.now; plan = p.plan; constants = p.constants }

-- the plain rule
abbrev pub planned_rule : PlannedRule → Rule
planned_rule p = rule_tree p.rule.now

-- the rule is sound, the plan is that of its pattern, and the terms are its constants
pub record IsPlanned (sig : Sig) (p : RulePlan) : Type 0 where
  pub sound : IsSoundRule sig p.rule
  pub plan : IsPlanOf sig p.rule.pattern p.plan
  pub constants : IsListing tree_cmp (IsConstantOf (p.rule ∷ [])) p.constants
