use Rattle.std.proofs.Common.{ap, subst}
use Rattle.std.specs.Prelude.{Some}
use Rattle.mp_table.specs.Table.{HasRanks, terms_at}
use Rattle.mp_search.specs.Reading.{subst_of}
use Rattle.mp_search.proofs.MatchLaws.{match-first}
use Rattle.mp_search.proofs.PartLaws.{stands-item, stands-others, first-others, first-pattern}
use Rattle.mp_search.proofs.candidates.later_may_match.Goals as goal

pub end_of-end-requires-clause-child : goal.end_of-end-requires-clause-child
end_of-end-requires-clause-child c =
    stands-item c.args.query.now c.args.node c.args.children.now c.child-item.result c.in-len1-up.len_at_least
    c.child-item.is c.requires.children

pub each_may_match-requires-clause-children : goal.each_may_match-requires-clause-children
each_may_match-requires-clause-children c =
    stands-others c.args.query.now c.args.node c.args.children.now c.child-item.result c.in-len1-up.len_at_least
    c.child-item.is c.requires.children c.end_of-end.result c.end_of-end.ensures

pub each_may_match-requires-clause-ranks : goal.each_may_match-requires-clause-ranks
each_may_match-requires-clause-ranks c =
    (subst (HasRanks c.args.query.now.table.now)
    (first-others c.args.args.now (record { 0 = 0 }) c.in-len1-up-args.len_at_least) c.requires.args).1

pub returns-in-len1-up-args : goal.returns-in-len1-up-args
returns-in-len1-up-args c = λ h.
    let q = c.args.query.now in
    let i = ap (terms_at q.table.now)
    (first-others c.args.args.now (record { 0 = 0 }) c.in-len1-up-args.len_at_least) in
    let e = first-pattern c.args.children.now c.child-item.result c.in-len1-up.len_at_least c.child-item.is in
    c.each_may_match.ensures
    (match-first q.sig.now (subst_of q c.args.trail.now) (Some c.args.op.0) _ _ _ _ _ _ e i h).1
