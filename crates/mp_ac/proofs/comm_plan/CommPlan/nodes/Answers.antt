use Rattle.std.proofs.Common.{arith}
use Rattle.mp_ac.proofs.PlanNodes.{plan-nodes_below}
use Rattle.mp_ac.proofs.comm_plan.CommPlan.nodes.Goals as goal

pub returns : goal.returns
returns c =
    let p = c.args.self.now.plan in
    let count = plan-nodes_below c.requires.0 p.pattern p c.requires.1.plan c.requires.1.application in
    omega (arith, c.len.ensures.count, count)
