use Rattle.std.proofs.Common.{◌∙◌, ap}
use Rattle.mp_pair.specs.Bipartite.{lists}
use Rattle.mp_pair.proofs.PairListing.{pairings_held}
use Rattle.mp_pair.proofs.pairings.Pairings.begin.Goals as goal

pub returns-clause-list : goal.returns-clause-list
returns-clause-list c = pairings_held c.args.graph.now.capacities c.in-Ok.capacities.items c.args.graph.now.left
    (lists c.in_ok-left.left.items)
    (c.in-Ok.ensures.items ∙ (c.deref.ensures.value ∙ ap (λ g. g.capacities) c.graph.view_is))
    (c.in_ok-left.ensures ∙ (ap lists c.deref-2.ensures.value ∙ ap (λ g. g.left) c.graph.view_is))
