use Rattle.std.proofs.Common.{◌≡◌, ◌∷◌, [], ◌+◌, ◌-◌, ◌++◌, take, drop, Bool, true, ap, sym, subst, refl, ◌∙◌, arith}
use Rattle.std.specs.Prelude.{Some}
use Rattle.std.specs.List.{AllByRecursion, filter}
use Rattle.std.proofs.lemmas.List.{append-nil, append_assoc}
use Rattle.mp_pattern.specs.View.{pattern_tree}
use Rattle.mp_table.specs.Table.{term_at}
use Rattle.mp_table.specs.declared.rank.Rank.{Rank}
use Rattle.mp_theory.specs.Shape.{shape}
use Rattle.mp_ac.specs.Candidates.{AreChoices}
use Rattle.mp_ac.proofs.CandidateLaws.{choices-filter, filter-left, filter-passed, goes_on}
use Rattle.mp_ac.proofs.Parts.{part-next, part-none, taken-more}
use Rattle.mp_ac.proofs.candidates.push_choices.Goals as goal
use Rattle.mp_ac.proofs.candidates.push_choices.Goals.{then-goes_on+in_ok-push, else-goes_on}

pub goes_on-requires-clause-shape : goal.goes_on-requires-clause-shape
goes_on-requires-clause-shape c =
    let at = c.loop-place.invariant in
    let next = part-next c.loop-place.place c.args.own.1 c.args.ranks.now.items at.4 c.loop-place.ranks.items
    c.index-rank.result.now at.5 (omega (arith, c.loop-place-test.true)) c.requires.own.1 c.index-rank.ensures in
    (subst (AllByRecursion (λ r. shape (pattern_tree c.args.child.now) (term_at c.args.table.now r) ≡ true))
    next at.3).0

pub goes_on-requires-clause-shapes : goal.goes_on-requires-clause-shapes
goes_on-requires-clause-shapes c =
    let at = c.loop-place.invariant in
    let same = ap (λ l. take (c.args.its.1 - c.args.its.0) (drop c.args.its.0 l)) (c.deref.ensures.value ∙ at.5)
    ∙ taken-more c.args.its.0 (c.args.its.1 - c.args.its.0) c.args.ranks.now.items at.4
    (omega (arith, c.requires.its)) in
    subst (AllByRecursion (λ r. shape (pattern_tree c.args.next.now) (term_at c.args.table.now r) ≡ true)) (sym same)
    c.requires.its_shaped

pub loop-place-preserved : goal.loop-place-preserved
loop-place-preserved c =
    let t = c.args.table.now in
    let p = pattern_tree c.args.child.now in
    let q = pattern_tree c.args.next.now in
    let old = c.args.ranks.now.items in
    let at = c.loop-place.invariant in
    let rank = c.index-rank.result.now in
    let next = part-next c.loop-place.place c.args.own.1 old at.4 c.loop-place.ranks.items rank at.5
    (omega (arith, c.loop-place-test.true)) c.requires.own.1 c.index-rank.ensures in
    let its = take (c.args.its.1 - c.args.its.0) (drop c.args.its.0 old) in
    let same = ap (λ l. take (c.args.its.1 - c.args.its.0) (drop c.args.its.0 l)) (c.deref.ensures.value ∙ at.5)
    ∙ taken-more c.args.its.0 (c.args.its.1 - c.args.its.0) old at.4 (omega (arith, c.requires.its)) in
    let test = ap (λ l. goes_on t p q l rank) (sym same) ∙ sym c.goes_on.ensures in
    let f : Rank → Bool = goes_on t p q its in
    let later = take (c.args.own.1 - (c.loop-place.place + 1)) (drop (c.loop-place.place + 1) old) in
    let part = take (c.args.own.1 - c.loop-place.place) (drop c.loop-place.place old) in
    let all = filter f (take (c.args.own.1 - c.args.own.0) (drop c.args.own.0 old)) in
    let shaped = (subst (AllByRecursion (λ r. shape p (term_at t r) ≡ true)) next at.3).1 in
    elim c.if-goes_on.branch [
      | then-goes_on+in_ok-push w ↦ (
        omega (arith, at.0),
        omega (arith, c.loop-place-test.true),
        refl,
        shaped,
        at.4 ++ rank ∷ [],
        ap (λ v. v.items) w.ranks-is ∙ w.in_ok-push.ensures.items ∙ ap (λ l. l ++ rank ∷ []) at.5
            ∙ append_assoc old at.4 (rank ∷ []),
        filter-passed f rank at.4 later part all (test ∙ w.if-goes_on.true) next at.6,
      )
      | else-goes_on w ↦ (
        omega (arith, at.0),
        omega (arith, c.loop-place-test.true),
        refl,
        shaped,
        at.4,
        ap (λ v. v.items) w.ranks-is ∙ at.5,
        filter-left f rank at.4 later part all (test ∙ w.if-goes_on.false) next at.6,
      )
    ]

pub returns : goal.returns
returns c =
    let t = c.args.table.now in
    let p = pattern_tree c.args.child.now in
    let q = pattern_tree c.args.next.now in
    let old = c.args.ranks.now.items in
    let at = c.loop-place.invariant in
    let its = take (c.args.its.1 - c.args.its.0) (drop c.args.its.0 old) in
    let own = take (c.args.own.1 - c.args.own.0) (drop c.args.own.0 old) in
    let f : Rank → Bool = goes_on t p q its in
    let none = part-none c.loop-place.place c.args.own.1 old (omega (arith, c.loop-place-test.false)) in
    let all : at.4 ≡ filter f own = sym (append-nil at.4) ∙ ap (λ l. at.4 ++ filter f l) (sym none) ∙ at.6 in
    (at.4, at.5, λ us h k. subst (AreChoices t p (Some q) us) (sym all) (choices-filter t p q us own its h k))
