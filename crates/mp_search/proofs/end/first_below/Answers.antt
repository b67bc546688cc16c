use Rattle.std.proofs.Common.{arith}
use Rattle.mp_pattern.specs.View.{pattern_tree}
use Rattle.mp_search.proofs.PartLaws.{node-within}
use Rattle.mp_search.proofs.end.first_below.Goals as goal

pub overflow_add-result : goal.overflow_add-result
overflow_add-result c =
    let k = node-within c.args.query.now c.requires.query c.args.node (pattern_tree c.args.child.now)
    c.requires.child in
    omega (arith, k, c.len.ensures.count, c.len.ensures.most)
