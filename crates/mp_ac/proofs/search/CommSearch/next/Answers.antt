use Rattle.std.proofs.Common.{◌≡◌, ◌∙◌, length, ap, sym, subst, rules}
use Rattle.std.specs.Vec.{with_items}
use Rattle.std.proofs.lemmas.List.{with_items_is, places}
use Rattle.mp_pattern.specs.View.{pattern_tree}
use Rattle.mp_subst.specs.Trail.{cut}
use Rattle.mp_ac.specs.Search.{mark_of}
use Rattle.mp_ac.specs.Seek.{IsLeading}
use Rattle.mp_ac.specs.Stage.{stage_after}
use Rattle.mp_ac.proofs.OverLaws as laws
use Rattle.mp_ac.proofs.search.CommSearch.next.Goals as goal
use Rattle.mp_ac.proofs.search.CommSearch.next.Goals.{then-found, else-found, then-not-found, else-not-found}

pub seek-found-requires-clause-children : goal.seek-found-requires-clause-children
seek-found-requires-clause-children c =
    let s = c.args.self.now in
    laws.all-mapped (IsLeading s.sig.now) pattern_tree s.children.now c.requires.over.leading

pub returns-clause-over : goal.returns-clause-over
returns-clause-over c =
    let o = c.args.self.now in
    let u = cut (mark_of o) c.args.trail.now in
    let ks = with_items_is o.room.picks c.seek-found.new.picks (search (rules, places)) in
    let ls = with_items_is o.room.levels c.seek-found.new.levels (search (rules, places)) in
    let e = elim c.if-found.branch as (λ _. c.if-found.self ≡ stage_after c.seek-found.result) [
      | then-found w ↦ w.self-is ∙ ap stage_after (sym w.if-found.true)
      | else-found w ↦ w.self-is ∙ ap stage_after (sym w.if-found.false)
    ] in
    laws.over-next o u c.requires.over c.get-plan.result.now c.get-plan.ensures c.deref-2.result.now
    c.deref-2.ensures.value c.as_slice-2.result.now c.as_slice-2.ensures c.undo.new.self c.undo.ensures.trail
    (with_items o.room.picks c.seek-found.new.picks) (with_items o.room.levels c.seek-found.new.levels)
    c.deref_mut.result.now c.seek-found.new.picks c.seek-found.new.levels c.deref_mut.ensures.value ks ls
    c.seek-found.result c.if-found.self e c.seek-found.ensures.rooms c.seek-found.ensures.picks
    (c.seek-found.ensures.count ∙ ap length c.deref_mut-2.ensures.value) c.seek-found.ensures.levels
    c.seek-found.ensures.picked c.in-Some.mode (sym c.in-Some.is ∙ c.mode.ensures) _ _ c.seek-found.ensures.found

pub returns-clause-kept : goal.returns-clause-kept
returns-clause-kept c =
    let m = mark_of c.args.self.now in
    let t = c.args.trail.now in
    let back : cut m c.seek-found.new.trail ≡ cut m t = laws.cut-again m t c.seek-found.new.trail c.requires.mark
    (subst (λ u. cut (length u.stack) c.seek-found.new.trail ≡ u) c.undo.ensures.trail c.seek-found.ensures.kept) in
    elim c.if-not-found.branch as (λ _. cut m c.if-not-found.trail ≡ cut m t) [
      | then-not-found w ↦ laws.cut-twice m t c.if-not-found.trail c.requires.mark
          (w.trail-is ∙ w.undo-then-not-found.ensures.trail ∙ back)
      | else-not-found w ↦ ap (cut m) w.trail-is ∙ back
    ]

pub returns-then-is_spent-clause-found : goal.returns-then-is_spent-clause-found
returns-then-is_spent-clause-found c =
    let o = c.args.self.now in
    (c.is_spent.ensures c.if-is_spent.true (cut (mark_of o) c.args.trail.now) c.requires.over, c.undo.ensures.trail)

pub returns-then-is_spent-clause-kept : goal.returns-then-is_spent-clause-kept
returns-then-is_spent-clause-kept c =
    laws.cut-twice (mark_of c.args.self.now) c.args.trail.now c.undo.new.self c.requires.mark c.undo.ensures.trail

pub returns-in_default-clause-kept : goal.returns-in_default-clause-kept
returns-in_default-clause-kept c =
    laws.cut-twice (mark_of c.args.self.now) c.args.trail.now c.undo.new.self c.requires.mark c.undo.ensures.trail
