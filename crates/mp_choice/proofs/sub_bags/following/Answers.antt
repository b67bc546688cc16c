use Rattle.std.proofs.Common.{arith, ◌-◌, length-set, slice_index}
use Rattle.mp_choice.proofs.SubBagLaws.{length-sub_bag, bag_le}
use Rattle.mp_choice.proofs.SubBagLoops.{next-fallen, falls_size}
use Rattle.mp_choice.proofs.SubBagListing.{next-same_size, last-whole}
use Rattle.mp_choice.proofs.sub_bags.following.Goals as goal

pub fill-requires-clause-same_length : goal.fill-requires-clause-same_length
fill-requires-clause-same_length c = omega (
  arith,
  length-sub_bag c.args.counts.now c.args.bag.now c.requires.within,
  length-set c.args.bag.now c.in-Some.i (slice_index c.args.bag.now c.in-Some.i - 1),
)

pub returns-in-Some : goal.returns-in-Some
returns-in-Some c = next-same_size c.args.counts.now c.args.bag.now c.fill.new.bag
    (next-fallen c.args.counts.now c.args.bag.now c.fill.new.bag c.in-Some.i c.in-Some.size c.requires.within
    c.in-Some.ensures
    (omega (arith, length-set c.args.bag.now c.in-Some.i (slice_index c.args.bag.now c.in-Some.i - 1)))
    c.fill.ensures.before c.fill.ensures.filled)

pub overflow_add-size : goal.overflow_add-size
overflow_add-size c =
    omega (arith, falls_size c.args.counts.now c.args.bag.now c.in-Some.i c.in-Some.size c.in-Some.ensures)

pub total-size-requires : goal.total-size-requires
total-size-requires c = omega (arith, bag_le c.args.counts.now c.args.bag.now c.requires.within)

pub returns-then-size-total : goal.returns-then-size-total
returns-then-size-total c = last-whole c.args.counts.now c.args.bag.now c.in-None.ensures (omega arith)

pub overflow_add-size-in-None : goal.overflow_add-size-in-None
overflow_add-size-in-None c = omega (arith, bag_le c.args.counts.now c.args.bag.now c.requires.within)

pub fill-requires-in-None-clause-same_length : goal.fill-requires-in-None-clause-same_length
fill-requires-in-None-clause-same_length c =
    omega (arith, length-sub_bag c.args.counts.now c.args.bag.now c.requires.within)

pub fill-requires-in-None-clause-fits : goal.fill-requires-in-None-clause-fits
fill-requires-in-None-clause-fits c = grind (arith, bag_le c.args.counts.now c.args.bag.now c.requires.within)
