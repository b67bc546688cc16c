use Rattle.std.proofs.Common.{arith, ◌-◌, inl, inr}
use Rattle.mp_choice.proofs.SubBagLaws.{length-sub_bag}
use Rattle.mp_choice.proofs.SubBagLoops.{bag_at, stuck-end, stuck-more, bag_bounds}
use Rattle.mp_choice.proofs.sub_bags.fall.Goals as goal

pub loop-i-init : goal.loop-i-init
loop-i-init c = stuck-end c.args.counts.now c.args.bag.now c.requires.within

pub bounds-bag-i : goal.bounds-bag-i
bounds-bag-i c = omega (arith, length-sub_bag c.args.counts.now c.args.bag.now c.requires.within)

pub bounds-bag-i-in-loop-i : goal.bounds-bag-i-in-loop-i
bounds-bag-i-in-loop-i c = omega (arith, length-sub_bag c.args.counts.now c.args.bag.now c.requires.within)

pub bounds-bag-i-in-loop-i-2 : goal.bounds-bag-i-in-loop-i-2
bounds-bag-i-in-loop-i-2 c = omega (arith, length-sub_bag c.args.counts.now c.args.bag.now c.requires.within)

pub overflow_sub-room : goal.overflow_sub-room
overflow_sub-room c = bag_at c.args.counts.now c.args.bag.now (c.loop-i.i - 1) c.requires.within

pub overflow_add-size : goal.overflow_add-size
overflow_add-size c =
    omega (
      arith,
      bag_bounds c.args.counts.now c.args.bag.now c.loop-i.i (c.loop-i.i - 1) c.loop-i.size c.loop-i.room
          (omega arith) (omega arith) c.requires.within c.loop-i.invariant,
    )

pub overflow_add-room : goal.overflow_add-room
overflow_add-room c =
    omega (
      arith,
      bag_bounds c.args.counts.now c.args.bag.now c.loop-i.i (c.loop-i.i - 1) c.loop-i.size c.loop-i.room
          (omega arith) (omega arith) c.requires.within c.loop-i.invariant,
    )

pub loop-i-preserved : goal.loop-i-preserved
loop-i-preserved c = stuck-more c.args.counts.now c.args.bag.now c.loop-i.i (c.loop-i.i - 1) c.loop-i.size c.loop-i.room
    (omega arith) (omega arith) c.requires.within c.loop-i.invariant
    (λ some. elim c.else-bag-i-gt0.either [ inl w ↦ omega arith | inr w ↦ omega arith ])
