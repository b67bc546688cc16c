use Rattle.std.proofs.Common.{◌∙◌, subst}
use Rattle.mp_term.specs.Listing.{In}
use Rattle.mp_pattern.specs.View.{pattern_tree}
use Rattle.mp_pattern.proofs.PlanNodes.{plan-names}
use Rattle.mp_ac.proofs.comm_plan.CommPlan.new.Goals as goal

pub numbers-requires : goal.numbers-requires
numbers-requires c = λ x i. c.requires.names x (subst (In x)
    (plan-names c.args.sig.now (pattern_tree c.args.pattern.now) c.in_ok-plan.plan c.in_ok-plan.ensures) i)

pub returns : goal.returns
returns c = record {
  application = c.requires.application;
  plan = c.in_ok-plan.ensures;
  names = c.in_ok-vars.ensures.names
      ∙ plan-names c.args.sig.now (pattern_tree c.args.pattern.now) c.in_ok-plan.plan c.in_ok-plan.ensures;
  few = c.in_ok-vars.ensures.few;
}
