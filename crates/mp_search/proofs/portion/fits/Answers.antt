use Rattle.std.proofs.Common.{subst}
use Rattle.mp_table.specs.Table.{term_at}
use Rattle.mp_search.specs.Frames.{above}
use Rattle.mp_search.specs.Partners.{IsSecond}
use Rattle.mp_search.specs.Reading.{subst_of}
use Rattle.mp_search.proofs.PartLaws.{site-child}
use Rattle.mp_search.proofs.PartnerLaws.{leads-match}
use Rattle.mp_search.proofs.portion.fits.Goals as goal

pub may_match_there-requires-clause-child : goal.may_match_there-requires-clause-child
may_match_there-requires-clause-child c = site-child c.args.query.now c.args.site.now c.requires.site

pub returns-in-Any : goal.returns-in-Any
returns-in-Any c = λ l.
    c.may_match_there.ensures
    (leads-match c.args.query.now c.args.site.now (subst_of c.args.query.now c.args.trail.now) c.args.rank l)

pub returns-in-Is : goal.returns-in-Is
returns-in-Is c = λ l.
    let q = c.args.query.now in
    let x = c.args.site.now in
    let s = subst_of q c.args.trail.now in
    let is = subst (IsSecond q x s) c.in-Is.is c.requires.second in
    c.has_second.ensures (is.1 (above x.under) (term_at q.table.now c.args.rank) (leads-match q x s c.args.rank l))
