use Rattle.std.proofs.Common.{arith}
use Rattle.mp_line.proofs.NamedLaws.{names-next, names-end, item-nodes}
use Rattle.mp_line.proofs.test.+condition_names.Goals as goal

pub all_condition_names-condition_names-requires : goal.all_condition_names-condition_names-requires
all_condition_names-condition_names-requires t c =
    let small = item-nodes c.args.conds.now c.loop-cond.cond-index c.cond-item.result c.loop-cond-test.true
    c.cond-item.is in
    (omega (arith, c.decreases, small), tt)

pub all_condition_names-loop-cond-preserved : goal.all_condition_names-loop-cond-preserved
all_condition_names-loop-cond-preserved t c =
    names-next c.args.conds.now c.loop-cond.cond-index c.cond-item.result c.loop-cond-test.true c.cond-item.is _ _ _
    c.in_ok-condition_names.ensures c.loop-cond.invariant

pub all_condition_names-returns : goal.all_condition_names-returns
all_condition_names-returns t c =
    names-end c.args.conds.now c.loop-cond.cond-index c.loop-cond-test.false _ _ c.loop-cond.invariant
