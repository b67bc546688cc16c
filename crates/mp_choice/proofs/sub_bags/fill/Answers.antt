use Rattle.std.proofs.Common.{arith}
use Rattle.mp_choice.proofs.SubBagLoops.{filled-end}
use Rattle.mp_choice.proofs.sub_bags.fill.Goals as goal

pub returns-clause-filled : goal.returns-clause-filled
returns-clause-filled c =
    (filled-end c.args.counts.now c.args.bag.now c.loop-i.bag c.args.from c.loop-i.i c.args.size c.loop-i.left
    (omega arith) c.requires.within c.requires.same_length c.requires.fits c.loop-i.invariant).1
