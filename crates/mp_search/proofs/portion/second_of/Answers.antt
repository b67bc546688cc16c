use Rattle.mp_search.proofs.PartLaws.{site-child}
use Rattle.mp_search.proofs.portion.second_of.Goals as goal

pub second_rank-requires-clause-child : goal.second_rank-requires-clause-child
second_rank-requires-clause-child c = site-child c.args.query.now c.args.site.now c.requires.site
