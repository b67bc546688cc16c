use Rattle.std.proofs.Common.{true}
use Rattle.mp_choice.specs.SubBags.{IsSubBag}
use Rattle.mp_choice.specs.SubBagList.{counts_order, sub_bags_of}
use Rattle.mp_choice.proofs.Listed.{after-first, after-next}
use Rattle.mp_choice.proofs.SubBagOrder.{counts_order_total}
use Rattle.mp_choice.proofs.SubBagListing.{sub_bags_of-listing, first_bag}
use Rattle.mp_choice.proofs.sub_bags.step.Goals as goal

pub returns-in-Before : goal.returns-in-Before
returns-in-Before c = after-first counts_order counts_order_total (IsSubBag c.args.counts.now)
    (sub_bags_of c.args.counts.now) (sub_bags_of-listing c.args.counts.now)
    true c.args.stage c.args.bag.now c.fill.new.bag c.in-Before.is
    (first_bag c.args.counts.now c.fill.new.bag c.fill.ensures.filled)

pub returns-in-Standing : goal.returns-in-Standing
returns-in-Standing c = after-next counts_order counts_order_total (IsSubBag c.args.counts.now)
    (sub_bags_of c.args.counts.now) (sub_bags_of-listing c.args.counts.now)
    c.following.result c.args.stage c.args.bag.now c.following.new.bag c.in-Standing.is c.following.ensures
