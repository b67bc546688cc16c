use Rattle.std.proofs.Common.{◌-◌, take, length, map, ap, sym, ◌∙◌, subst}
use Rattle.mp_pattern.specs.PatternTree.{patterns}
use Rattle.mp_pattern.specs.View.{pattern_tree}
use Rattle.mp_table.specs.Table.{terms_at}
use Rattle.mp_theory.specs.Items.{items}
use Rattle.mp_theory.specs.Frames as walk
use Rattle.mp_search.specs.Frames.{above, stack_frames}
use Rattle.mp_search.specs.OneWay.{HaveOneTable}
use Rattle.mp_search.specs.Reading.{subst_of}
use Rattle.mp_search.specs.Site.{site_place}
use Rattle.mp_search.proofs.OneWayLaws.{one-table}
use Rattle.mp_search.proofs.node.has_one_way_at.Goals as goal

pub has_one_way-requires-clause-children : goal.has_one_way-requires-clause-children
has_one_way-requires-clause-children c = c.site_at-site.ensures.site.children

pub returns-in-Root : goal.returns-in-Root
returns-in-Root c = λ h.
    let q = c.args.query.now in
    let x = c.site_at-site.result in
    let L = c.args.levels.now in
    let k = c.args.k in
    let s = subst_of q c.args.trail.now in
    let root = ap (stack_frames q (take k L)) c.in-Root.is in
    subst (λ n. HaveOneTable (items q.sig.now (length L - k) n s))
    (ap (site_place q x) (sym root) ∙ c.site_at-site.ensures.place)
    (one-table q.sig.now (length L - k) (above x.under) (pattern_tree x.child.now)
    (patterns (map pattern_tree x.later.now)) (terms_at q.table.now x.left.now) x.owes s (c.has_one_way.ensures h))
