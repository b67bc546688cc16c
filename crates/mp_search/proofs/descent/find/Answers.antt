use Rattle.mp_search.proofs.OnwardLaws.{node-start}
use Rattle.mp_search.proofs.descent.find.Goals as goal

pub search-requires-clause-node : goal.search-requires-clause-node
search-requires-clause-node c =
    node-start c.args.query.now c.args.levels.now c.args.trail.now c.requires.ready
