use Rattle.std.proofs.Common.{ap, arith}
use Rattle.mp_pattern.specs.PatternTree.{patterns}
use Rattle.mp_pattern.specs.Size.{pattern_nodes, all_pattern_nodes}
use Rattle.mp_pattern.specs.View.{pattern_tree}
use Rattle.mp_walk.proofs.RoomLaws.{item-nodes}
use Rattle.mp_vm.proofs.look.+add_pattern_uses.Goals as goal

pub add_pattern_uses-requires : goal.add_pattern_uses-requires
add_pattern_uses-requires t c =
    let whole = ap (λ p. pattern_nodes (pattern_tree p)) c.in-App.is in
    let same = ap (λ ps. all_pattern_nodes (patterns ps)) c.as_slice-arg-items.ensures in
    let small = item-nodes c.as_slice-arg-items.result.now c.loop-arg.arg-index c.arg-item.result
    c.loop-arg-test.true c.arg-item.is in
    (omega (arith, c.decreases, whole, same, small), tt)
