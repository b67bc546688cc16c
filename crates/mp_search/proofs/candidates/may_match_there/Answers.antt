use Rattle.std.proofs.Common.{◌≡◌, true, refl, map, sym, subst}
use Rattle.std.specs.Prelude.{Some}
use Rattle.mp_pattern.specs.PatternTree.{patterns, app_pattern}
use Rattle.mp_pattern.specs.View.{pattern_tree}
use Rattle.mp_table.specs.Table.{term_at}
use Rattle.mp_theory.specs.MayMatch as look
use Rattle.mp_search.specs.Frames.{above}
use Rattle.mp_search.specs.Reading.{subst_of}
use Rattle.mp_search.proofs.MatchLaws.{match-children}
use Rattle.mp_search.proofs.PartLaws.{stands-below}
use Rattle.mp_search.proofs.candidates.may_match_there.Goals as goal

pub later_may_match-requires-clause-children : goal.later_may_match-requires-clause-children
later_may_match-requires-clause-children c =
    stands-below c.args.query.now c.args.node c.first_below-below.result c.in-App.op.0
    (patterns (map pattern_tree c.as_slice-children.result.now)) (pattern_tree c.args.child.now)
    (rw (c.in-App.is, c.as_slice-children.ensures) refl) c.first_below-below.ensures c.requires.child

pub returns-else-not-tells_first : goal.returns-else-not-tells_first
returns-else-not-tells_first c = λ h.
    let q = c.args.query.now in
    let s = subst_of q c.args.trail.now in
    let ps = patterns (map pattern_tree c.as_slice-children.result.now) in
    let e : pattern_tree c.args.child.now ≡ app_pattern c.in-App.op.0 ps = rw (c.in-App.is, c.as_slice-children.ensures)
    refl in
    let tells = c.tells_first.ensures c.if-not-tells_first.false in
    c.later_may_match.ensures
    (subst (λ ts. look.each_may_match q.sig.now s (Some c.in-App.op.0) ps ts ≡ true)
    (sym c.args-args.ensures.terms)
    (match-children q.sig.now s (above c.args.under) (pattern_tree c.args.child.now)
    c.in-App.op.0 ps (term_at q.table.now c.args.rank) e tells.0 tells.1 h))
