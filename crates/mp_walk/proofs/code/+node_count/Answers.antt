use Rattle.std.proofs.Common.{ap, arith}
use Rattle.mp_pattern.specs.PatternTree.{patterns}
use Rattle.mp_pattern.specs.Size.{pattern_nodes, all_pattern_nodes}
use Rattle.mp_pattern.specs.View.{pattern_tree}
use Rattle.mp_walk.proofs.RoomLaws.{item-nodes}
use Rattle.mp_walk.proofs.code.+node_count.Goals as goal

pub node_count-count-requires : goal.node_count-count-requires
node_count-count-requires t c =
    let whole = ap (λ p. pattern_nodes (pattern_tree p)) c.in-App.is in
    let same = ap (λ ps. all_pattern_nodes (patterns ps)) c.as_slice-child-items.ensures in
    let small = item-nodes c.as_slice-child-items.result.now c.loop-child.child-index c.child-item.result
    c.loop-child-test.true c.child-item.is in
    (omega (arith, c.decreases, whole, same, small), omega (arith, c.requires, whole, same, small))
