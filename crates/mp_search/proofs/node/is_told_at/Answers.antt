use Rattle.std.proofs.Common.{◌+◌, take, ap, sym, ◌∙◌, arith}
use Rattle.mp_search.proofs.ChildLaws.{child-stands}
use Rattle.mp_search.proofs.LevelsLaws.{length-take_within}
use Rattle.mp_search.proofs.NodeSteps.{split-within}
use Rattle.mp_search.proofs.node.is_told_at.Goals as goal

pub node_at-requires-clause-within : goal.node_at-requires-clause-within
node_at-requires-clause-within c =
    split-within c.args.query.now c.args.levels.now c.args.place.now c.args.k c.requires.within c.requires.node
    c.requires.place

pub is_told_within-requires-clause-child : goal.is_told_within-requires-clause-child
is_told_within-requires-clause-child c =
    let q = c.args.query.now in
    let L = c.args.levels.now in
    let k = c.args.k in
    child-stands q (take k L) c.args.place.now c.requires.node.query c.requires.place c.node_at.result
    (c.node_at.ensures ∙ ap (λ i. q.first + i) (sym (length-take_within k L (omega (arith, c.requires.within)))))
