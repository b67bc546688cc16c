use Rattle.std.proofs.Common.{ap, arith}
use Rattle.mp_pattern.specs.PatternTree.{patterns}
use Rattle.mp_pattern.specs.Size.{pattern_nodes, all_pattern_nodes}
use Rattle.mp_pattern.specs.View.{pattern_tree}
use Rattle.mp_walk.proofs.RoomLaws.{item-nodes}
use Rattle.mp_line.proofs.comm.+is_flat.Goals as goal

pub is_flat-are_flat-requires : goal.is_flat-are_flat-requires
is_flat-are_flat-requires t c =
    let whole = ap (λ p. pattern_nodes (pattern_tree p)) c.in-App.is in
    let same = ap (λ ps. all_pattern_nodes (patterns ps)) c.as_slice-args.ensures in
    (omega (arith, c.decreases, whole, same), tt)

pub are_flat-is_flat-requires : goal.are_flat-is_flat-requires
are_flat-is_flat-requires t c =
    let small = item-nodes c.args.args.now c.loop-arg.arg-index c.arg-item.result (omega arith) c.arg-item.is in
    (omega (arith, c.decreases, small), tt)
