use Rattle.std.proofs.Common.{sym, ◌∙◌, arith}
use Rattle.mp_ac.proofs.PreparedLaws.{not_differ-tree, same-from}
use Rattle.mp_ac.proofs.comm_plans.are_same.Goals as goal

pub loop-i-preserved : goal.loop-i-preserved
loop-i-preserved c = λ rest.
    let x = c.index-list-i.result in
    let y = c.index-other-i.result in
    c.loop-i.invariant (same-from c.args.list.now c.args.other.now c.loop-i.i x y c.loop-i-test.true
    (omega (arith, c.loop-i-test.true, c.if-list-other.false)) c.index-list-i.is c.index-other-i.is
    (not_differ-tree x y (sym c.ne.ensures ∙ c.if-ne.false)) rest)
