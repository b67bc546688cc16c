use Rattle.std.proofs.Common.{◌-◌, map, take, drop, length}
use Rattle.mp_pattern.specs.PatternTree.{patterns}
use Rattle.mp_pattern.specs.View.{pattern_tree}
use Rattle.mp_table.specs.Table.{term_at}
use Rattle.mp_search.specs.Reading.{subst_of}
use Rattle.mp_search.proofs.PartLaws.{stands-item, stands-others, first-pattern}
use Rattle.mp_search.proofs.PlacesLaws.{if_some-map, each-second}
use Rattle.mp_search.proofs.candidates.second_among.Goals as goal

pub end_of-end-requires-clause-child : goal.end_of-end-requires-clause-child
end_of-end-requires-clause-child c =
    stands-item c.args.query.now c.args.node c.args.children.now c.child-item.result c.in-len1-up.len_at_least
    c.child-item.is c.requires.children

pub known_rank-requires-clause-child : goal.known_rank-requires-clause-child
known_rank-requires-clause-child c =
    let cs = c.args.children.now in
    let behind = stands-others c.args.query.now c.args.node cs c.child-item.result c.in-len1-up.len_at_least
    c.child-item.is c.requires.children c.end_of-end.result c.end_of-end.ensures in
    stands-item c.args.query.now c.end_of-end.result (take (length cs - 1) (drop 1 cs)) c.second-item.result
    c.in-len1.len_at_least c.second-item.is behind

pub returns-in-len1-clause-only : goal.returns-in-len1-clause-only
returns-in-len1-clause-only c =
    let q = c.args.query.now in
    let s = subst_of q c.args.trail.now in
    let cs = c.args.children.now in
    let ds = take (length cs - 1) (drop 1 cs) in
    let e = first-pattern cs c.child-item.result c.in-len1-up.len_at_least c.child-item.is in
    let i = first-pattern ds c.second-item.result c.in-len1.len_at_least c.second-item.is in
    if_some-map c.known_rank.result
    (λ r h f ts k. each-second q.sig.now s f (pattern_tree c.child-item.result) (pattern_tree c.second-item.result)
    (patterns (map pattern_tree ds)) (patterns (map pattern_tree (take (length ds - 1) (drop 1 ds))))
    (patterns (map pattern_tree cs)) ts (term_at q.table.now r) e i (λ t m. h f t m) k)
    c.known_rank.ensures.only
