use Rattle.std.proofs.Common.{ap, ◌∙◌}
use Rattle.mp_pattern.specs.PatternTree.{wild_pattern}
use Rattle.mp_pattern.specs.View.{pattern_tree, wildcard}
use Rattle.mp_search.proofs.PartLaws.{stands-first}
use Rattle.mp_search.proofs.PartnerLaws.{dot-number}
use Rattle.mp_search.proofs.partner.dot_number.Goals as goal

pub number_at-requires-clause-child : goal.number_at-requires-clause-child
number_at-requires-clause-child c =
    stands-first c.args.query.now c.args.node (pattern_tree c.args.child.now) c.requires.child

pub returns-in-Dot : goal.returns-in-Dot
returns-in-Dot c = dot-number c.args.query.now (pattern_tree c.args.child.now) c.number_at.result c.in-Wild.field-1
    (ap pattern_tree c.in-Wild.is ∙ ap (λ w. wild_pattern (wildcard w) c.in-Wild.field-1) c.in-Dot.is)
    c.number_at.ensures
