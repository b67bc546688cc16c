use Rattle.mp_choice.proofs.EquationListing.{listing_held}
use Rattle.mp_choice.proofs.equations.Equations.begin.Goals as goal

pub returns-clause-list : goal.returns-clause-list
returns-clause-list c = listing_held c.args.coefficients.now c.in-Ok.copies.items c.args.total
    (c.least_zero.ensures.none c.in_default.is) c.in-Ok.ensures.items
