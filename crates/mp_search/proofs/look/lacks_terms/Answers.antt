use Rattle.std.proofs.Common.{map, subst}
use Rattle.mp_pattern.specs.PatternTree.{patterns}
use Rattle.mp_pattern.specs.View.{pattern_tree}
use Rattle.mp_table.specs.Table.{terms_at}
use Rattle.mp_term.specs.Order.{tree_cmp}
use Rattle.mp_term.specs.Pieces.{without}
use Rattle.mp_search.specs.Frames.{above}
use Rattle.mp_search.specs.Lacking.{AreLacking}
use Rattle.mp_search.specs.Reading.{entry_of, subst_of}
use Rattle.mp_search.specs.Site.{site_frame}
use Rattle.mp_search.proofs.LackLaws.{nothing-lacking}
use Rattle.mp_search.proofs.look.lacks_terms.Goals as goal

pub returns : goal.returns
returns c = λ h j fs.
    let q = c.args.query.now in
    let x = c.args.site.now in
    let ps = patterns (map pattern_tree x.later.now) in
    let s = subst_of q c.args.trail.now in
    let lack = c.are_short.ensures h in
    nothing-lacking q.sig.now j (pattern_tree x.child.now) (site_frame q x) fs (entry_of q.table.now c.args.own.now)
    s lack.0
    (subst (λ rs. AreLacking q.sig.now s (above x.under) lack.0 ps
    (without tree_cmp (terms_at q.table.now rs) (terms_at q.table.now x.left.now))) c.as_slice.ensures lack.1)
