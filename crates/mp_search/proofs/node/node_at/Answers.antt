use Rattle.std.proofs.Common.{arith, ◌+◌}
use Rattle.mp_search.proofs.ChildLaws.{node-within}
use Rattle.mp_search.proofs.node.node_at.Goals as goal

pub overflow_add-result : goal.overflow_add-result
overflow_add-result c =
    let q = c.args.query.now in
    let w = node-within q.sig.now q.plan.now (q.first + c.args.k) c.requires.plan c.requires.within in
    omega (arith, w, c.len-nodes.ensures.count, c.len-nodes.ensures.most)

pub overflow_cast-result : goal.overflow_cast-result
overflow_cast-result c =
    let q = c.args.query.now in
    let w = node-within q.sig.now q.plan.now (q.first + c.args.k) c.requires.plan c.requires.within in
    omega (arith, w, c.len-nodes.ensures.count, c.len-nodes.ensures.most)
