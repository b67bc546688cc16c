use Rattle.std.proofs.Common.{◌≡◌, [], filter, ap, sym, ◌∙◌, subst, take}
use Rattle.mp_theory.specs.Machine.{onward}
use Rattle.mp_theory.specs.Items.{items}
use Rattle.mp_search.specs.Frames.{stack_frames}
use Rattle.mp_search.specs.Reading.{entry_at, entry_of, subst_of}
use Rattle.mp_search.specs.Site.{site_place}
use Rattle.mp_search.specs.Wanted.{good, AreComplete}
use Rattle.mp_search.proofs.OwnLaws.{entry-read}
use Rattle.mp_search.proofs.NodeSteps.{split-within}
use Rattle.mp_search.proofs.node.leads_nowhere_at.Goals as goal

pub node_at-requires-clause-within : goal.node_at-requires-clause-within
node_at-requires-clause-within c =
    split-within c.args.query.now c.args.levels.now c.args.place.now c.args.k c.requires.within c.requires.node
    c.requires.place

pub returns : goal.returns
returns c = λ i j.
    let q = c.args.query.now in
    let t = q.table.now in
    let L = c.args.levels.now in
    let k = c.args.k in
    let s = subst_of q c.args.trail.now in
    let own = c.index-levels-k in
    let fs = stack_frames q (take k L) c.args.place.now.outer.now in
    let same : entry_of t own.result ≡ entry_at t L k =
    ap (entry_of t) own.is ∙ sym (entry-read t L k own.result c.requires.within) in
    subst
    (λ n. AreComplete q (items q.sig.now j (onward n (entry_at t L k)) s)
    → filter (good q) (items q.sig.now j (onward n (entry_at t L k)) s) ≡ []) c.site_at-site.ensures.place
    (subst
    (λ e. AreComplete q (items q.sig.now j (onward (site_place q c.site_at-site.result fs) e) s)
    → filter (good q) (items q.sig.now j (onward (site_place q c.site_at-site.result fs) e) s) ≡ []) same
    (c.leads_nowhere.ensures i j fs))
