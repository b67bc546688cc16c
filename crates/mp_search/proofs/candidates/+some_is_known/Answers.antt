use Rattle.std.proofs.Common.{arith}
use Rattle.mp_search.proofs.PartLaws.{stands-item, stands-others}
use Rattle.mp_search.proofs.candidates.+some_is_known.Goals as goal

pub is_known-requires-clause-child : goal.is_known-requires-clause-child
is_known-requires-clause-child t c =
    stands-item c.args.query.now c.args.node c.args.children.now c.child-item.result c.in-len1-up.len_at_least
    c.child-item.is c.requires.children

pub end_of-end-requires-clause-child : goal.end_of-end-requires-clause-child
end_of-end-requires-clause-child t c =
    stands-item c.args.query.now c.args.node c.args.children.now c.child-item.result c.in-len1-up.len_at_least
    c.child-item.is c.requires.children

pub some_is_known-requires : goal.some_is_known-requires
some_is_known-requires t c =
    let others = stands-others c.args.query.now c.args.node c.args.children.now c.child-item.result
    c.in-len1-up.len_at_least c.child-item.is c.requires.children c.end_of-end.result c.end_of-end.ensures in (
      omega (arith, c.decreases, c.in-len1-up.len_at_least),
      (
        c.requires.query,
        (
          c.requires.trail,
          others,
        ),
      ),
    )
