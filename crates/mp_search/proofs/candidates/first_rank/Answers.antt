use Rattle.std.proofs.Common.{◌-◌, map, take, drop, length, ◌∙◌}
use Rattle.std.proofs.lemmas.List.{length-map}
use Rattle.std.specs.Prelude.{Some}
use Rattle.mp_pattern.specs.PatternTree.{patterns}
use Rattle.mp_pattern.specs.View.{pattern_tree}
use Rattle.mp_table.specs.Table.{term_at}
use Rattle.mp_search.specs.Reading.{subst_of}
use Rattle.mp_search.proofs.PartLaws.{stands-item, first-pattern}
use Rattle.mp_search.proofs.PlacesLaws.{if_some-map, each-length, each-first}
use Rattle.mp_search.proofs.candidates.first_rank.Goals as goal

pub known_rank-requires-clause-child : goal.known_rank-requires-clause-child
known_rank-requires-clause-child c =
    stands-item c.args.query.now c.args.node c.args.children.now c.child-item.result c.in-len1-up.len_at_least
    c.child-item.is c.requires.children

pub returns-in-len1-up-clause-only : goal.returns-in-len1-up-clause-only
returns-in-len1-up-clause-only c =
    let q = c.args.query.now in
    let s = subst_of q c.args.trail.now in
    let f = Some c.args.op.0 in
    let cs = c.args.children.now in
    let later = patterns (map pattern_tree (take (length cs - 1) (drop 1 cs))) in
    let e = first-pattern cs c.child-item.result c.in-len1-up.len_at_least c.child-item.is in
    if_some-map c.known_rank.result
    (λ r h ts k.
    let is = each-first q.sig.now s f (pattern_tree c.child-item.result) later (patterns (map pattern_tree cs)) ts
    (term_at q.table.now r) e (λ t m. h f t m) k in
    (each-length q.sig.now s f (map pattern_tree cs) ts k ∙ length-map cs pattern_tree, is.0, is.1))
    c.known_rank.ensures.only
