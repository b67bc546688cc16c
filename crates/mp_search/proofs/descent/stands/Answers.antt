use Rattle.std.proofs.Common.{sym}
use Rattle.mp_search.specs.Reading.{subst_of}
use Rattle.mp_search.proofs.VisitLaws.{begins}
use Rattle.mp_search.proofs.descent.stands.Goals as goal

pub returns-in-After : goal.returns-in-After
returns-in-After c =
    sym (begins c.args.query.now c.args.k c.args.levels.now (subst_of c.args.query.now c.args.trail.now)
    c.requires.within c.args.mode c.in-After.is c.requires.standing).allowed
