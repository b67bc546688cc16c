use Rattle.std.proofs.Common.{◌≡◌, ap, sym, ◌∙◌, subst}
use Rattle.mp_pattern.specs.PatternTree.{wild_pattern}
use Rattle.mp_pattern.specs.View.{pattern_tree, wildcard}
use Rattle.mp_pattern.specs.Subpatterns.{subpatterns}
use Rattle.mp_table.specs.Table.{terms_at}
use Rattle.mp_theory.specs.Machine.{reads}
use Rattle.mp_search.specs.Frames.{above}
use Rattle.mp_search.specs.Grounds.{ground_of}
use Rattle.mp_search.specs.Query.{HoldsGround}
use Rattle.mp_search.proofs.ReadsLaws.{default_passes-held, reads-wild}
use Rattle.mp_search.proofs.SiteLaws.{site-node}
use Rattle.mp_search.proofs.reads.reads.Goals as goal
use Rattle.mp_term.proofs.ListLaws.{all-get}

pub returns-then-not-collapsed-2 : goal.returns-then-not-collapsed-2
returns-then-not-collapsed-2 c =
    let q = c.args.query.now in
    let x = c.args.site.now in
    let w = wildcard c.in-Wild.shape in
    let p = wild_pattern w c.in-Wild.field-1 in
    let is : pattern_tree x.child.now ≡ p = ap pattern_tree c.in-Wild.is in
    let held : HoldsGround q.table.now (ground_of p) = subst (λ r. HoldsGround q.table.now (ground_of r)) is
    (all-get (λ r. HoldsGround q.table.now (ground_of r)) (subpatterns q.plan.now.pattern) x.node _
    c.requires.query.holds (site-node q x c.requires.site)) in
    c.is_given.ensures
    ∙ reads-wild q.sig.now w c.in-Wild.field-1 (above x.under) (terms_at q.table.now c.args.ranks.now) c.args.collapsed
    c.if-not-collapsed-2.true
    (default_passes-held q.sig.now q.table.now c.in-Wild.field-1 w (terms_at q.table.now c.args.ranks.now)
    c.requires.query.normal held)
    ∙ ap (λ r. reads q.sig.now r (above x.under)
    (record { terms = terms_at q.table.now c.args.ranks.now; collapsed = c.args.collapsed })) (sym is)
