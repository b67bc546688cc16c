use Rattle.mp_choice.proofs.SubBagListing.{listing_held}
use Rattle.mp_choice.proofs.sub_bags.SubBags.restart.Goals as goal

pub returns-clause-list : goal.returns-clause-list
returns-clause-list c = listing_held c.args.counts.now c.refill.new.list.items c.refill.ensures.items
