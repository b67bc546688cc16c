use Rattle.mp_search.proofs.PartLaws.{site-child}
use Rattle.mp_search.proofs.portion.tells.Goals as goal

pub tells_more-requires-clause-child : goal.tells_more-requires-clause-child
tells_more-requires-clause-child c = site-child c.args.query.now c.args.site.now c.requires.site
