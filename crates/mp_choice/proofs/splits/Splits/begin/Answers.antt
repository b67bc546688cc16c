use Rattle.mp_choice.proofs.SplitListing.{listing_held}
use Rattle.mp_choice.proofs.splits.Splits.begin.Goals as goal

pub returns-clause-list : goal.returns-clause-list
returns-clause-list c = listing_held c.args.length c.args.parts.now c.in-Ok.copies.items c.in-Ok.ensures.items
