use Rattle.std.proofs.Common.{◌∙◌, arith, sym}
use Rattle.mp_walk.proofs.FoundLaws.{ended-less}
use Rattle.mp_walk.proofs.ranked.compare_names.Goals as goal

pub returns-then-values-others : goal.returns-then-values-others
returns-then-values-others c =
    sym (ended-less c.loop-i.i c.args.values.now c.args.others.now
    (omega (arith, c.loop-i-test.false, c.loop-i.auto.i-end))
    (omega (arith, c.loop-i-test.false, c.loop-i.auto.i-end, c.if-values-others.true))) ∙ c.loop-i.invariant.rest
