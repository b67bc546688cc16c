use Rattle.std.proofs.Common.{sym, arith}
use Rattle.mp_subst.proofs.LastLaws.{last_place-number}
use Rattle.mp_subst.proofs.TrailViewLaws.{last_place-within}
use Rattle.mp_subst.proofs.trail.last_place.Goals as goal

pub returns-else-number-eq0-clause-within : goal.returns-else-number-eq0-clause-within
returns-else-number-eq0-clause-within c =
    last_place-within c.args.entries.now c.args.var _ (last_place-number c.args.entries.now c.args.var _
    (sym (c.requires c.args.var (omega (arith, c.if-var-last.false)))) (omega (arith, c.if-number-eq0.false)))
