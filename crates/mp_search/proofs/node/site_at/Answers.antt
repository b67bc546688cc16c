use Rattle.mp_search.proofs.ChildLaws.{child-within, site-at}
use Rattle.mp_search.proofs.node.site_at.Goals as goal

pub node_at-requires-clause-within : goal.node_at-requires-clause-within
node_at-requires-clause-within c =
    child-within c.args.query.now c.args.below.now c.args.place.now c.requires.query c.requires.place

pub returns-clause-site : goal.returns-clause-site
returns-clause-site c =
    site-at c.args.query.now c.args.below.now c.args.place.now c.requires.query c.requires.place c.node_at.result
    c.left_list.result c.node_at.ensures c.left_list.ensures.terms c.requires.narrow c.requires.ordered
    c.left_list.ensures.ranks
