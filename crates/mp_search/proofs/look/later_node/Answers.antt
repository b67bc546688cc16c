use Rattle.std.proofs.Common.{map, sym, subst}
use Rattle.mp_pattern.specs.PatternTree.{patterns}
use Rattle.mp_pattern.specs.Subpatterns.{all_subpatterns}
use Rattle.mp_pattern.specs.View.{pattern_tree}
use Rattle.mp_search.specs.Parts.{StandsAt}
use Rattle.mp_search.proofs.PartLaws.{site-child, site-later}
use Rattle.mp_search.proofs.look.later_node.Goals as goal

pub end_of-requires-clause-child : goal.end_of-requires-clause-child
end_of-requires-clause-child c = site-child c.args.query.now c.args.site.now c.requires.site

pub returns : goal.returns
returns c =
    subst (λ k. StandsAt c.args.query.now k (all_subpatterns (patterns (map pattern_tree c.args.site.now.later.now))))
    (sym c.end_of.ensures) (site-later c.args.query.now c.args.site.now c.requires.site)
