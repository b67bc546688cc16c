use Rattle.std.proofs.Common.{subst}
use Rattle.mp_walk.specs.Ranked.{AreOver}
use Rattle.mp_walk.proofs.found.Finds.into_pairs.Goals as goal

pub returns-clause-over : goal.returns-clause-over
returns-clause-over c = subst (λ f. AreOver f.table c.compact.new.found.items) c.self.view_is
    (c.compact.ensures.over c.self.inside.table.now c.self.invariant.1)
