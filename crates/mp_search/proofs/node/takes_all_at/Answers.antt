use Rattle.std.proofs.Common.{length, take, ap, sym, ◌∙◌, eqb-true}
use Rattle.std.proofs.lemmas.List.{length-map}
use Rattle.mp_pattern.specs.View.{pattern_tree, wildcard}
use Rattle.mp_table.specs.Table.{term_at}
use Rattle.mp_search.specs.Frames.{stack_frames}
use Rattle.mp_search.specs.Site.{site_frame}
use Rattle.mp_search.proofs.BindAtLaws.{length-taken}
use Rattle.mp_search.proofs.LastLaws.{nothing-above-at}
use Rattle.mp_search.proofs.node.takes_all_at.Goals as goal

pub returns-in-Wild : goal.returns-in-Wild
returns-in-Wild c = λ h.
    let q = c.args.query.now in
    let t = q.table.now in
    let L = c.args.levels.now in
    let k = c.args.k in
    let p = c.args.place.now in
    let x = c.site_at-site.result in
    let taken = length-taken t L k c.index-levels-k.result c.requires.within in
    nothing-above-at q k L p (wildcard c.in-Wild.field-0) c.in-Wild.field-1 (pattern_tree x.child.now) (site_frame q x)
    (stack_frames q (take k L) p.outer.now) c.requires.place (ap pattern_tree c.in-Wild.is) c.requires.allowed
    c.site_at-site.ensures.place
    (sym taken ∙ sym c.len.ensures ∙ eqb-true c.len.result (length x.left.now) h
    ∙ sym (length-map x.left.now (term_at t)))
