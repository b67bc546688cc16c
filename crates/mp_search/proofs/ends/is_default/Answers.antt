use Rattle.mp_search.proofs.SiteLaws.{site-node}
use Rattle.mp_search.proofs.ends.is_default.Goals as goal

pub ground_rank-requires-clause-child : goal.ground_rank-requires-clause-child
ground_rank-requires-clause-child c = site-node c.args.query.now c.args.site.now c.requires.site
