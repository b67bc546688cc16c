use Rattle.std.proofs.Common.{sym, subst, arith}
use Rattle.mp_search.specs.OneWay.{AreTold}
use Rattle.mp_search.specs.Reading.{subst_of}
use Rattle.mp_search.proofs.PartLaws.{stands-item, stands-others, first-pattern}
use Rattle.mp_search.proofs.told.+are_told.Goals as goal

pub is_told-requires-clause-child : goal.is_told-requires-clause-child
is_told-requires-clause-child t c =
    stands-item c.args.query.now c.args.node c.args.children.now c.child-item.result c.in-len1-up.len_at_least
    c.child-item.is c.requires.children

pub end_of-requires-clause-child : goal.end_of-requires-clause-child
end_of-requires-clause-child t c =
    stands-item c.args.query.now c.args.node c.args.children.now c.child-item.result c.in-len1-up.len_at_least
    c.child-item.is c.requires.children

pub are_told-requires : goal.are_told-requires
are_told-requires t c =
    let others = stands-others c.args.query.now c.args.node c.args.children.now c.child-item.result
    c.in-len1-up.len_at_least c.child-item.is c.requires.children c.end_of.result c.end_of.ensures in
    (omega (arith, c.decreases, c.in-len1-up.len_at_least), (c.requires.query, (c.requires.trail, others)))

pub returns-then-is_told : goal.returns-then-is_told
returns-then-is_told t c = λ h.
    let e = first-pattern c.args.children.now c.child-item.result c.in-len1-up.len_at_least c.child-item.is in
    subst (AreTold (subst_of c.args.query.now c.args.trail.now)) (sym e)
    (c.is_told.ensures c.if-is_told.true, c.are_told.ensures h)
