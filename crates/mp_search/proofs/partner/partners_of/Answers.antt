use Rattle.std.proofs.Common.{◌-◌, take, drop, length, map, sym, subst}
use Rattle.mp_pattern.specs.PatternTree.{patterns}
use Rattle.mp_pattern.specs.Subpatterns.{all_subpatterns}
use Rattle.mp_pattern.specs.View.{pattern_tree}
use Rattle.mp_search.specs.Frames.{above}
use Rattle.mp_search.specs.Parts.{StandsAt}
use Rattle.mp_search.specs.Reading.{subst_of}
use Rattle.mp_search.proofs.PartLaws.{first-pattern, site-child, site-later, stands-item}
use Rattle.mp_search.proofs.PartnerLaws.{partners-are}
use Rattle.mp_search.proofs.partner.partners_of.Goals as goal

pub end_of-node-requires-clause-child : goal.end_of-node-requires-clause-child
end_of-node-requires-clause-child c = site-child c.args.query.now c.args.site.now c.requires.site

pub share_second-requires-clause-child : goal.share_second-requires-clause-child
share_second-requires-clause-child c = site-child c.args.query.now c.args.site.now c.requires.site

pub share_second-requires-clause-other : goal.share_second-requires-clause-other
share_second-requires-clause-other c =
    let q = c.args.query.now in
    let x = c.args.site.now in
    stands-item q c.end_of-node.result x.later.now c.next-item.result c.in-len1-up.len_at_least c.next-item.is
    (subst (λ k. StandsAt q k (all_subpatterns (patterns (map pattern_tree x.later.now)))) (sym c.end_of-node.ensures)
    (site-later q x c.requires.site))

pub places_of-first-requires-clause-child : goal.places_of-first-requires-clause-child
places_of-first-requires-clause-child c =
    let q = c.args.query.now in
    let x = c.args.site.now in
    stands-item q c.end_of-node.result x.later.now c.next-item.result c.in-len1-up.len_at_least c.next-item.is
    (subst (λ k. StandsAt q k (all_subpatterns (patterns (map pattern_tree x.later.now)))) (sym c.end_of-node.ensures)
    (site-later q x c.requires.site))

pub returns-else-end-first-gt-FEW-clause-partners : goal.returns-else-end-first-gt-FEW-clause-partners
returns-else-end-first-gt-FEW-clause-partners c =
    let q = c.args.query.now in
    let x = c.args.site.now in
    partners-are q x (subst_of q c.args.trail.now) (pattern_tree c.next-item.result)
    (patterns (map pattern_tree (take (length x.later.now - 1) (drop 1 x.later.now))))
    (first-pattern x.later.now c.next-item.result c.in-len1-up.len_at_least c.next-item.is)
    (c.share_second.ensures c.if-not-share_second.false) c.places_of-first.result.0 c.places_of-first.result.1
    (c.places_of-first.ensures.places (above x.under))
