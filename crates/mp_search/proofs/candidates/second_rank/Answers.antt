use Rattle.std.proofs.Common.{◌≡◌, refl, map}
use Rattle.std.specs.Prelude.{Some}
use Rattle.mp_pattern.specs.PatternTree.{patterns, app_pattern}
use Rattle.mp_pattern.specs.View.{pattern_tree}
use Rattle.mp_table.specs.Subterms.{arguments}
use Rattle.mp_search.specs.Reading.{subst_of}
use Rattle.mp_search.proofs.MatchLaws.{match-children}
use Rattle.mp_search.proofs.PartLaws.{stands-below}
use Rattle.mp_search.proofs.PlacesLaws.{if_some-map}
use Rattle.mp_search.proofs.candidates.second_rank.Goals as goal

pub second_among-requires-clause-children : goal.second_among-requires-clause-children
second_among-requires-clause-children c =
    stands-below c.args.query.now c.args.node c.first_below-below.result c.in-App.op.0
    (patterns (map pattern_tree c.as_slice-children.result.now)) (pattern_tree c.args.child.now)
    (rw (c.in-App.is, c.as_slice-children.ensures) refl) c.first_below-below.ensures c.requires.child

pub returns-else-not-tells_first-clause-only : goal.returns-else-not-tells_first-clause-only
returns-else-not-tells_first-clause-only c =
    let q = c.args.query.now in
    let s = subst_of q c.args.trail.now in
    let ps = patterns (map pattern_tree c.as_slice-children.result.now) in
    let e : pattern_tree c.args.child.now ≡ app_pattern c.in-App.op.0 ps = rw (c.in-App.is, c.as_slice-children.ensures)
    refl in
    let tells = c.tells_first.ensures c.if-not-tells_first.false in
    if_some-map c.second_among.result
    (λ r h f t k. h (Some c.in-App.op.0) (arguments t) (match-children q.sig.now s f (pattern_tree c.args.child.now)
    c.in-App.op.0 ps t e tells.0 tells.1 k)) c.second_among.ensures.only
