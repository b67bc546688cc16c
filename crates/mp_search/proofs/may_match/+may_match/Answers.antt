use Rattle.std.proofs.Common.{◌≡◌, true, ◌-◌, refl, map, take, drop, length, ap, sym, ◌∙◌, subst}
use Rattle.std.proofs.Common.{arith, length-append}
use Rattle.std.specs.Prelude.{Some}
use Rattle.mp_pattern.specs.PatternTree.{patterns, app_pattern}
use Rattle.mp_pattern.specs.Subpatterns.{subpatterns, all_subpatterns}
use Rattle.mp_pattern.specs.View.{pattern_tree, wildcard}
use Rattle.mp_table.specs.Table.{HasRanks, term_at, terms_at}
use Rattle.mp_theory.specs.MayMatch as look
use Rattle.mp_search.specs.Frames.{above}
use Rattle.mp_search.specs.Parts.{StandsAt}
use Rattle.mp_search.specs.Reading.{subst_of}
use Rattle.mp_search.proofs.MatchLaws.{match-known, match-children, match-first}
use Rattle.mp_search.proofs.PartLaws.{stands-item, stands-left, stands-others, stands-below, first-others}
use Rattle.mp_search.proofs.PartLaws.{first-pattern, some-subpatterns}
use Rattle.mp_search.proofs.may_match.+may_match.Goals as goal

pub each_may_match-may_match-requires : goal.each_may_match-may_match-requires
each_may_match-may_match-requires t c =
    let q = c.args.query.now in
    let p = pattern_tree c.child-item.result in
    let later = all_subpatterns
    (patterns (map pattern_tree (take (length c.args.children.now - 1) (drop 1 c.args.children.now)))) in
    let e = ap all_subpatterns
    (first-pattern c.args.children.now c.child-item.result c.in-len1-up.len_at_least c.child-item.is) in
    let r = subst (HasRanks q.table.now)
    (first-others c.args.ranks.now (record { 0 = 0 }) c.in-len1-up-ranks.len_at_least) c.requires.ranks in (
      omega (arith, c.decreases, ap length e, length-append (subpatterns p) later),
      (
        c.requires.query,
        (
          c.requires.trail,
          (stands-left q c.args.node (subpatterns p) later (subst (StandsAt q c.args.node) e c.requires.children), r.0),
        ),
      ),
    )

pub each_may_match-end_of-end-requires-clause-child : goal.each_may_match-end_of-end-requires-clause-child
each_may_match-end_of-end-requires-clause-child t c =
    stands-item c.args.query.now c.args.node c.args.children.now c.child-item.result c.in-len1-up.len_at_least
    c.child-item.is c.requires.children

pub each_may_match-each_may_match-requires : goal.each_may_match-each_may_match-requires
each_may_match-each_may_match-requires t c =
    let q = c.args.query.now in
    let p = pattern_tree c.child-item.result in
    let later = all_subpatterns
    (patterns (map pattern_tree (take (length c.args.children.now - 1) (drop 1 c.args.children.now)))) in
    let e = ap all_subpatterns
    (first-pattern c.args.children.now c.child-item.result c.in-len1-up.len_at_least c.child-item.is) in
    let others = stands-others c.args.query.now c.args.node c.args.children.now c.child-item.result
    c.in-len1-up.len_at_least c.child-item.is c.requires.children c.end_of-end.result c.end_of-end.ensures in
    let r = subst (HasRanks q.table.now)
    (first-others c.args.ranks.now (record { 0 = 0 }) c.in-len1-up-ranks.len_at_least) c.requires.ranks in (
      omega (arith, c.decreases, ap length e, length-append (subpatterns p) later, some-subpatterns p),
      (
        c.requires.query,
        (
          c.requires.trail,
          (
            others,
            r.1,
          ),
        ),
      ),
    )

pub each_may_match-returns-else-not-may_match : goal.each_may_match-returns-else-not-may_match
each_may_match-returns-else-not-may_match t c = λ h.
    let q = c.args.query.now in
    let i = ap (terms_at q.table.now)
    (first-others c.args.ranks.now (record { 0 = 0 }) c.in-len1-up-ranks.len_at_least) in
    let e = first-pattern c.args.children.now c.child-item.result c.in-len1-up.len_at_least c.child-item.is in
    c.each_may_match.ensures
    (match-first q.sig.now (subst_of q c.args.trail.now) (above c.args.under) _ _ _ _ _ _ e i h).1

pub may_match-each_may_match-requires : goal.may_match-each_may_match-requires
may_match-each_may_match-requires t c =
    let q = c.args.query.now in
    let ps = patterns (map pattern_tree c.as_slice-children.result.now) in
    let e : pattern_tree c.args.child.now ≡ app_pattern c.in-App.op.0 ps = rw (c.in-App.is, c.as_slice-children.ensures)
    refl in (
      omega (arith, c.decreases, ap (λ p. length (subpatterns p)) e),
      (
        c.requires.query,
        (
          c.requires.trail,
          (
            stands-below q c.args.node c.first_below.result c.in-App.op.0 ps (pattern_tree c.args.child.now) e
                c.first_below.ensures c.requires.child,
            c.args-args.ensures.within,
          ),
        ),
      ),
    )

pub may_match-returns-then-is_of_its_kind : goal.may_match-returns-then-is_of_its_kind
may_match-returns-then-is_of_its_kind t c = λ h.
    let q = c.args.query.now in
    c.is_as_known.ensures (above c.args.under)
    (match-known q.sig.now (subst_of q c.args.trail.now) (above c.args.under) (pattern_tree c.args.child.now)
    (wildcard c.in-Wild.shape) c.in-Wild.field-1 (term_at q.table.now c.args.rank) (ap pattern_tree c.in-Wild.is) h)

pub may_match-returns-else-not-is_plain : goal.may_match-returns-else-not-is_plain
may_match-returns-else-not-is_plain t c = λ h.
    let q = c.args.query.now in
    let ps = patterns (map pattern_tree c.as_slice-children.result.now) in
    let e : pattern_tree c.args.child.now ≡ app_pattern c.in-App.op.0 ps = rw (c.in-App.is, c.as_slice-children.ensures)
    refl in
    c.each_may_match.ensures
    (subst (λ ts. look.each_may_match q.sig.now (subst_of q c.args.trail.now) (Some c.in-App.op.0) ps ts ≡ true)
    (sym c.args-args.ensures.terms)
    (match-children q.sig.now (subst_of q c.args.trail.now) (above c.args.under) (pattern_tree c.args.child.now)
    c.in-App.op.0 ps (term_at q.table.now c.args.rank) e (sym c.may_collapse.ensures ∙ c.if-may_collapse.false)
    (sym c.is_plain.ensures ∙ c.if-not-is_plain.false) h))
