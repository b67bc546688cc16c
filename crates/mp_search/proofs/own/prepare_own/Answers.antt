use Rattle.std.proofs.Common.{subst, []}
use Rattle.std.specs.List.{AllByRecursion}
use Rattle.mp_term.specs.Listing.{In}
use Rattle.mp_theory.specs.Machine as machine
use Rattle.mp_search.specs.Reading.{subst_of}
use Rattle.mp_search.specs.Site.{IsPrepared, site_place, entries_drawn}
use Rattle.mp_search.proofs.own.prepare_own.Goals as goal

pub returns-clause-leads : goal.returns-clause-leads
returns-clause-leads c =
    subst (λ x. IsPrepared c.args.query.now x (subst_of c.args.query.now c.args.trail.now) c.prepare.new.own)
    c.site-site.ensures
    c.prepare.ensures.leads

pub returns-clause-choices : goal.returns-clause-choices
returns-clause-choices c =
    subst
    (λ x. AllByRecursion (λ e. In e (machine.choices c.args.query.now.sig.now (site_place c.args.query.now x [])))
    (entries_drawn c.args.query.now x c.prepare.new.own)) c.site-site.ensures c.prepare.ensures.choices
