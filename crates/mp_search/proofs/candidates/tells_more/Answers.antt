use Rattle.std.proofs.Common.{refl, map}
use Rattle.mp_pattern.specs.PatternTree.{patterns}
use Rattle.mp_pattern.specs.View.{pattern_tree}
use Rattle.mp_search.proofs.PartLaws.{stands-below}
use Rattle.mp_search.proofs.candidates.tells_more.Goals as goal

pub looks_within-requires-clause-children : goal.looks_within-requires-clause-children
looks_within-requires-clause-children c =
    stands-below c.args.query.now c.args.node c.first_below.result c.in-App.op.0
    (patterns (map pattern_tree c.as_slice-children.result.now)) (pattern_tree c.args.child.now)
    (rw (c.in-App.is, c.as_slice-children.ensures) refl) c.first_below.ensures c.requires.child
