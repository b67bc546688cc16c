use Rattle.std.proofs.Common.{◌≡◌, refl, map, sym, ◌∙◌, subst}
use Rattle.mp_pattern.specs.PatternTree.{patterns, app_pattern}
use Rattle.mp_pattern.specs.View.{pattern_tree}
use Rattle.mp_search.specs.OneWay.{IsToldWithin}
use Rattle.mp_search.specs.Reading.{subst_of}
use Rattle.mp_search.proofs.PartLaws.{stands-below}
use Rattle.mp_search.proofs.told.is_told_within.Goals as goal

pub are_told-requires-clause-children : goal.are_told-requires-clause-children
are_told-requires-clause-children c =
    stands-below c.args.query.now c.args.node c.first_below.result c.in-App.op.0
    (patterns (map pattern_tree c.as_slice-children.result.now)) (pattern_tree c.args.child.now)
    (rw (c.in-App.is, c.as_slice-children.ensures) refl) c.first_below.ensures c.requires.child

pub returns-then-is_plain : goal.returns-then-is_plain
returns-then-is_plain c = λ h.
    let q = c.args.query.now in
    let s = subst_of q c.args.trail.now in
    let ps = patterns (map pattern_tree c.as_slice-children.result.now) in
    let e : pattern_tree c.args.child.now ≡ app_pattern c.in-App.op.0 ps = rw (c.in-App.is, c.as_slice-children.ensures)
    refl in
    subst (IsToldWithin q.sig.now s) (sym e) (
      sym c.is_one.ensures ∙ c.if-is_one.false,
      sym c.is_plain.ensures ∙ c.if-is_plain.true,
      c.are_told.ensures h,
    )
