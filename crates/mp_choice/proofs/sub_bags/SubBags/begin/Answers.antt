use Rattle.mp_choice.proofs.SubBagListing.{listing_held}
use Rattle.mp_choice.proofs.sub_bags.SubBags.begin.Goals as goal

pub returns-clause-list : goal.returns-clause-list
returns-clause-list c = listing_held c.args.counts.now c.in-Ok.copies.items c.in-Ok.ensures.items
