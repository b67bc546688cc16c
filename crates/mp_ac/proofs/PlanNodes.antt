-- The nodes of a plan.
use Rattle.std.proofs.Common.{◌≡◌, ◌+◌, length, ap, ◌∙◌, sym}
use Rattle.mp_term.specs.Signature.{Sig}
use Rattle.mp_pattern.specs.PatternTree.{Pattern}
use Rattle.mp_pattern.specs.Plan.{Plan, IsPlanOf}
use Rattle.mp_pattern.specs.Size.{pattern_nodes}
use Rattle.mp_pattern.proofs.PlanNodes.{plan-nodes}
use Rattle.mp_ac.specs.CommPlan.{IsApplication, nodes_below}

-- one more than there are below its root, where that is an application
pub plan-nodes_below : (sig : Sig) (p : Pattern) (plan : Plan) → IsPlanOf sig p plan → IsApplication p
    → length plan.nodes ≡ nodes_below p + 1
plan-nodes_below sig p plan h a =
    plan-nodes sig p plan h ∙ ap pattern_nodes a.is ∙ ap (λ q. nodes_below q + 1) (sym a.is)
