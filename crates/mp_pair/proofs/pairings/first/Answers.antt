use Rattle.mp_pair.specs.Bipartite.{lists}
use Rattle.mp_pair.proofs.PairListing.{first_pairing}
use Rattle.mp_pair.proofs.pairings.first.Goals as goal

pub returns : goal.returns
returns c = first_pairing c.settle.result c.args.capacities.now
    (lists c.args.left.now) c.settle.new.choice c.settle.ensures
