use Rattle.std.proofs.Common.{◌≡◌, true, refl, map, sym, subst}
use Rattle.std.specs.Prelude.{None}
use Rattle.mp_pattern.specs.PatternTree.{patterns, app_pattern}
use Rattle.mp_pattern.specs.View.{pattern_tree}
use Rattle.mp_table.specs.Table.{term_at}
use Rattle.mp_theory.specs.MayMatch.{may_match}
use Rattle.mp_search.specs.Portion.{StandBetween}
use Rattle.mp_search.specs.Reading.{subst_of}
use Rattle.mp_search.proofs.PartLaws.{stands-below}
use Rattle.mp_search.proofs.candidates.places_of.Goals as goal

pub group_places-requires-clause-children : goal.group_places-requires-clause-children
group_places-requires-clause-children c =
    stands-below c.args.query.now c.args.node c.first_below.result c.in-App.op.0
    (patterns (map pattern_tree c.as_slice-children.result.now)) (pattern_tree c.args.child.now)
    (rw (c.in-App.is, c.as_slice-children.ensures) refl) c.first_below.ensures c.requires.child

pub returns-then-not-may_collapse-clause-places : goal.returns-then-not-may_collapse-clause-places
returns-then-not-may_collapse-clause-places c = λ f.
    let q = c.args.query.now in
    let ps = patterns (map pattern_tree c.as_slice-children.result.now) in
    let e : pattern_tree c.args.child.now ≡ app_pattern c.in-App.op.0 ps = rw (c.in-App.is, c.as_slice-children.ensures)
    refl in
    subst (λ p. StandBetween
    (λ r. may_match q.sig.now (subst_of q c.args.trail.now) f p (term_at q.table.now r) ≡ true) c.args.list.now
    c.group_places.result.0 c.group_places.result.1) (sym e) (c.group_places.ensures.places f)

pub returns-then-not-may_collapse-clause-within : goal.returns-then-not-may_collapse-clause-within
returns-then-not-may_collapse-clause-within c = (c.group_places.ensures.places None).within

pub returns-then-not-may_collapse-clause-ordered : goal.returns-then-not-may_collapse-clause-ordered
returns-then-not-may_collapse-clause-ordered c = c.group_places.ensures.ordered
