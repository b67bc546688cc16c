use Rattle.std.proofs.Common.{arith}
use Rattle.mp_search.proofs.PartLaws.{stands-item, stands-others}
use Rattle.mp_search.proofs.rivals.+mark_from.Goals as goal

pub is_placed-requires-clause-child : goal.is_placed-requires-clause-child
is_placed-requires-clause-child t c =
    stands-item c.args.look.query.now c.args.node c.args.children.now c.child-item.result c.in-len1-up.len_at_least
    c.child-item.is c.requires.children

pub end_of-end-requires-clause-child : goal.end_of-end-requires-clause-child
end_of-end-requires-clause-child t c =
    stands-item c.args.look.query.now c.args.node c.args.children.now c.child-item.result c.in-len1-up.len_at_least
    c.child-item.is c.requires.children

pub mark_from-requires : goal.mark_from-requires
mark_from-requires t c =
    let others = stands-others c.args.look.query.now c.args.node c.args.children.now c.child-item.result
    c.in-len1-up.len_at_least c.child-item.is c.requires.children c.end_of-end.result c.end_of-end.ensures in (
      omega (arith, c.decreases, c.in-len1-up.len_at_least),
      (
        c.requires.look,
        (
          others,
          omega (arith, c.is_placed.ensures.places, c.is_placed.ensures.marks, c.requires.many),
        ),
      ),
    )
