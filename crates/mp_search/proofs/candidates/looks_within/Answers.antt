use Rattle.mp_search.proofs.PartLaws.{stands-item, stands-others}
use Rattle.mp_search.proofs.candidates.looks_within.Goals as goal

pub end_of-end-requires-clause-child : goal.end_of-end-requires-clause-child
end_of-end-requires-clause-child c =
    stands-item c.args.query.now c.args.node c.args.children.now c.child-item.result c.in-len1-up.len_at_least
    c.child-item.is c.requires.children

pub some_is_known-requires-clause-children : goal.some_is_known-requires-clause-children
some_is_known-requires-clause-children c =
    stands-others c.args.query.now c.args.node c.args.children.now c.child-item.result c.in-len1-up.len_at_least
    c.child-item.is c.requires.children c.end_of-end.result c.end_of-end.ensures
