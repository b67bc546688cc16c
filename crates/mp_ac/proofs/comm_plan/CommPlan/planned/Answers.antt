use Rattle.std.proofs.Common.{◌∙◌, subst}
use Rattle.mp_term.specs.Listing.{In}
use Rattle.mp_pattern.specs.View.{pattern_tree}
use Rattle.mp_pattern.proofs.PlanNodes.{plan-names}
use Rattle.mp_ac.proofs.comm_plan.CommPlan.planned.Goals as goal

pub numbers-requires : goal.numbers-requires
numbers-requires c = λ x i. c.requires.names x (subst (In x)
    (plan-names c.args.sig.now (pattern_tree c.args.pattern.now) c.in-Ok.plan c.in-Ok.ensures.plan) i)

pub returns-in_ok-vars-in-Ok : goal.returns-in_ok-vars-in-Ok
returns-in_ok-vars-in-Ok c = record {
  application = c.requires.application;
  plan = c.in-Ok.ensures.plan;
  names = c.in_ok-vars-in-Ok.ensures.names
      ∙ plan-names c.args.sig.now (pattern_tree c.args.pattern.now) c.in-Ok.plan c.in-Ok.ensures.plan;
  few = c.in_ok-vars-in-Ok.ensures.few;
}
