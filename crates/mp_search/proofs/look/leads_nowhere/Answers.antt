use Rattle.std.proofs.Common.{ap, filter}
use Rattle.mp_theory.specs.Machine.{onward}
use Rattle.mp_search.specs.Reading.{entry_of, subst_of}
use Rattle.mp_search.specs.Site.{site_place}
use Rattle.mp_search.specs.Wanted.{good}
use Rattle.mp_search.proofs.JudgeLaws.{none-good}
use Rattle.mp_search.proofs.look.leads_nowhere.Goals as goal

pub returns-then-fails : goal.returns-then-fails
returns-then-fails c i j fs a =
    let q = c.args.query.now in
    none-good q j (onward (site_place q c.args.site.now fs) (entry_of q.table.now c.args.own.now))
    (subst_of q c.args.trail.now) (c.fails.ensures c.if-fails.true) a

pub returns-else-fails : goal.returns-else-fails
returns-else-fails c i j fs a = ap (filter (good c.args.query.now)) (c.lacks_terms.ensures i j fs)
