use Rattle.std.proofs.Common.{ap, arith}
use Rattle.mp_pattern.specs.PatternTree.{patterns}
use Rattle.mp_pattern.specs.Size.{pattern_nodes, all_pattern_nodes}
use Rattle.mp_pattern.specs.View.{pattern_tree}
use Rattle.mp_walk.proofs.RoomLaws.{item-nodes}
use Rattle.mp_line.proofs.comm.+has_right_wildcards.Goals as goal

pub has_right_wildcards-have_right_wildcards-requires : goal.has_right_wildcards-have_right_wildcards-requires
has_right_wildcards-have_right_wildcards-requires t c =
    let whole = ap (λ p. pattern_nodes (pattern_tree p)) c.in-App.is in
    let same = ap (λ ps. all_pattern_nodes (patterns ps)) c.as_slice.ensures in
    (omega (arith, c.decreases, whole, same), tt)

pub have_right_wildcards-has_right_wildcards-requires : goal.have_right_wildcards-has_right_wildcards-requires
have_right_wildcards-has_right_wildcards-requires t c =
    let small = item-nodes c.args.patterns.now c.loop-pattern.pattern-index c.pattern-item.result (omega arith)
    c.pattern-item.is in
    (omega (arith, c.decreases, small), tt)
