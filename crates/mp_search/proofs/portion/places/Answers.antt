use Rattle.std.proofs.Common.{◌≡◌, true}
use Rattle.mp_pattern.specs.View.{pattern_tree}
use Rattle.mp_table.specs.Table.{term_at}
use Rattle.mp_theory.specs.MayMatch.{may_match}
use Rattle.mp_search.specs.Frames.{above}
use Rattle.mp_search.specs.Portion.{MayTake}
use Rattle.mp_search.specs.Reading.{subst_of}
use Rattle.mp_search.proofs.HeadedLaws.{between-fewer}
use Rattle.mp_search.proofs.PartLaws.{site-child}
use Rattle.mp_search.proofs.PartnerLaws.{leads-match}
use Rattle.mp_search.proofs.portion.places.Goals as goal

pub places_of-requires-clause-child : goal.places_of-requires-clause-child
places_of-requires-clause-child c = site-child c.args.query.now c.args.site.now c.requires.site

pub returns-then-looks-clause-between : goal.returns-then-looks-clause-between
returns-then-looks-clause-between c =
    let q = c.args.query.now in
    let x = c.args.site.now in
    let s = subst_of q c.args.trail.now in
    between-fewer (MayTake q x s c.args.looks)
    (λ r. may_match q.sig.now s (above x.under) (pattern_tree x.child.now) (term_at q.table.now r) ≡ true) x.left.now
    c.places_of.result.0 c.places_of.result.1 (λ z w. leads-match q x s z (w c.if-looks.true))
    (c.places_of.ensures.places (above x.under))
