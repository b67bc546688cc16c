use Rattle.std.proofs.Common.{refl}
use Rattle.mp_pattern.specs.PatternTree.{dot}
use Rattle.mp_pattern.specs.View.{pattern_tree}
use Rattle.mp_subst.specs.Bound.{bound_of, value_in}
use Rattle.mp_table.specs.Table.{terms_at}
use Rattle.mp_theory.specs.Known.{known_lists}
use Rattle.mp_search.specs.Frames.{above}
use Rattle.mp_search.specs.Site.{site_frame}
use Rattle.mp_search.proofs.EndLaws.{bound-taken}
use Rattle.mp_search.proofs.MadeLaws.{made-whole}
use Rattle.mp_search.proofs.prepare.draw_bound.Goals as goal

pub returns-clause-made : goal.returns-clause-made
returns-clause-made c s h =
    let q = c.args.query.now in
    let x = c.args.site.now in
    let v = value_in q.table.now (bound_of c.args.bound.now) in
    made-whole q x s _ c.is_default-empty.result c.fill_bound-whole.result
    (known_lists q.sig.now (above x.under) dot v (terms_at q.table.now x.left.now)) refl c.fill_bound-whole.ensures.pool
    (λ fs. bound-taken q.sig.now (pattern_tree x.child.now) (site_frame q x) fs s v c.is_default-empty.result h
    c.requires.site.arranged c.is_default-empty.ensures)
