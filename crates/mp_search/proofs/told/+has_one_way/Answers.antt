use Rattle.std.proofs.Common.{map, sym, subst, arith, inl, inr}
use Rattle.mp_pattern.specs.PatternTree.{patterns, more_patterns}
use Rattle.mp_pattern.specs.Subpatterns.{subpatterns, all_subpatterns}
use Rattle.mp_pattern.specs.View.{pattern_tree}
use Rattle.mp_search.specs.OneWay.{HaveOneWay}
use Rattle.mp_search.specs.Parts.{StandsAt}
use Rattle.mp_search.specs.Reading.{subst_of}
use Rattle.mp_search.proofs.PartLaws.{stands-left, stands-right, stands-parts, first-pattern, no-pattern}
use Rattle.mp_search.proofs.told.+has_one_way.Goals as goal

pub is_told_within-requires-clause-child : goal.is_told_within-requires-clause-child
is_told_within-requires-clause-child t c =
    stands-left c.args.query.now c.args.node (subpatterns (pattern_tree c.args.child.now))
    (all_subpatterns (patterns (map pattern_tree c.args.later.now))) c.requires.children

pub is_told_within-requires-in-len1-up-clause-child : goal.is_told_within-requires-in-len1-up-clause-child
is_told_within-requires-in-len1-up-clause-child t c =
    stands-left c.args.query.now c.args.node (subpatterns (pattern_tree c.args.child.now))
    (all_subpatterns (patterns (map pattern_tree c.args.later.now))) c.requires.children

pub end_of-requires-clause-child : goal.end_of-requires-clause-child
end_of-requires-clause-child t c =
    stands-left c.args.query.now c.args.node (subpatterns (pattern_tree c.args.child.now))
    (all_subpatterns (patterns (map pattern_tree c.args.later.now))) c.requires.children

pub has_one_way-requires : goal.has_one_way-requires
has_one_way-requires t c =
    let q = c.args.query.now in
    let later = all_subpatterns (patterns (map pattern_tree c.args.later.now)) in
    let behind = subst (λ k. StandsAt q k later) (sym c.end_of.ensures)
    (stands-right q c.args.node (subpatterns (pattern_tree c.args.child.now)) later c.requires.children) in
    let parts = stands-parts q c.end_of.result c.args.later.now c.next-item.result c.in-len1-up.len_at_least
    c.next-item.is behind in
    (omega (arith, c.decreases, c.in-len1-up.len_at_least), (c.requires.query, (c.requires.trail, parts)))

pub returns-then-is_told_within : goal.returns-then-is_told_within
returns-then-is_told_within t c = λ h.
    let q = c.args.query.now in
    let p = pattern_tree c.args.child.now in
    let e = first-pattern c.args.later.now c.next-item.result c.in-len1-up.len_at_least c.next-item.is in
    subst (λ ps. HaveOneWay q.sig.now (subst_of q c.args.trail.now) (more_patterns p ps)) (sym e)
    (inr (c.is_told_within-in-len1-up.ensures c.if-is_told_within.true, c.has_one_way.ensures h))

pub returns-else-is_wild : goal.returns-else-is_wild
returns-else-is_wild t c = λ h.
    let q = c.args.query.now in
    let e = no-pattern c.args.later.now c.in-empty.len_below in
    inr (c.is_told_within.ensures h, subst (HaveOneWay q.sig.now (subst_of q c.args.trail.now)) (sym e) tt)

pub returns-then-is_wild : goal.returns-then-is_wild
returns-then-is_wild t c = λ h. inl (c.is_wild.ensures h, no-pattern c.args.later.now c.in-empty.len_below)
