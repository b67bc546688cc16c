use Rattle.std.proofs.Common.{arith}
use Rattle.mp_search.proofs.PartLaws.{stands-item, stands-others}
use Rattle.mp_search.proofs.rivals.+nth_place_from.Goals as goal

pub place_from-requires-clause-child : goal.place_from-requires-clause-child
place_from-requires-clause-child t c =
    stands-item c.args.look.query.now c.args.node c.args.children.now c.child-item.result c.in-len1-up.len_at_least
    c.child-item.is c.requires.children

pub end_of-end-requires-clause-child : goal.end_of-end-requires-clause-child
end_of-end-requires-clause-child t c =
    stands-item c.args.look.query.now c.args.node c.args.children.now c.child-item.result c.in-len1-up.len_at_least
    c.child-item.is c.requires.children

pub nth_place_from-requires : goal.nth_place_from-requires
nth_place_from-requires t c =
    let others = stands-others c.args.look.query.now c.args.node c.args.children.now c.child-item.result
    c.in-len1-up.len_at_least c.child-item.is c.requires.children c.end_of-end.result c.end_of-end.ensures in (
      omega (arith, c.decreases, c.in-len1-up.len_at_least),
      (c.requires.look, others),
    )
