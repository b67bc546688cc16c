use Rattle.std.proofs.Common.{◌<◌, length, map, take, ap, sym, ◌∙◌, subst}
use Rattle.std.specs.Prelude.{option_map}
use Rattle.mp_walk.specs.CourseView.{IsLeftBehind}
use Rattle.mp_walk.specs.CourseVisits.{course_visits, visits_behind}
use Rattle.mp_walk.specs.InstrView.{plain_instr}
use Rattle.mp_walk.specs.Levels.{read_of, trail_before, search_of}
use Rattle.mp_walk.specs.OpenOnes.{IsPlaceBelow, AreFrames, opens}
use Rattle.mp_ac.specs.Numbered.{IsTrailOf}
use Rattle.mp_walk.proofs.LevelLaws.{below-more}
use Rattle.mp_walk.proofs.ReadingLaws.{single-search}
use Rattle.mp_walk.proofs.SpentLaws.{IsSpentIn, spent-left, spent-to_come, spent-visits}
use Rattle.mp_walk.proofs.StandingLaws.{behind_to_come}
use Rattle.mp_walk.proofs.course.Course.read_again.Goals as goal

pub is_spent-requires-clause-frames : goal.is_spent-requires-clause-frames
is_spent-requires-clause-frames c =
    let self = c.args.self.now in
    subst (AreFrames self.set.sig.now self.set.table.now) (sym c.deref.ensures.value) c.requires.standing.frames

pub is_spent-requires-clause-place : goal.is_spent-requires-clause-place
is_spent-requires-clause-place c =
    let self = c.args.self.now in
    let S = c.requires.standing in
    subst (λ fs. IsPlaceBelow (length fs) c.args.level.place) (sym c.deref.ensures.value)
    (below-more c.args.level.frames (length self.frames.items) S.places c.args.level.place S.last.place)

pub go_over-requires-clause-left : goal.go_over-requires-clause-left
go_over-requires-clause-left c =
    let self = c.args.self.now in
    let S = c.requires.standing in
    let l = c.args.level in
    let i = plain_instr c.in-Some.instr.now in
    let held = c.instr.ensures ∙ ap (option_map (λ j. plain_instr j.now)) c.in-Some.is in
    let none = subst (λ fs. IsSpentIn self.set fs l.place i l.next) c.deref.ensures.value
    (c.is_spent.ensures.none c.if-is_spent.true) in
    let search = single-search self.set.table.now i.token (opens self.set.table.now self.frames.items l.place)
    (trail_before self.trail l) (search_of l) (c.is_spent.ensures.single c.if-is_spent.true) (S.last.searched i held) in
    let trail : IsTrailOf self.set.table.now (trail_before self.trail l) =
    subst (IsTrailOf self.set.table.now) c.undo.ensures.trail (record {
      goes = c.undo.ensures.goes_with self.set.table.now S.trail.goes;
      vars = ap (λ u. u.vars) c.undo.ensures.trail ∙ S.trail.vars;
    }) in
    subst (λ fs. IsLeftBehind self.set fs c.undo.new.self self.levels.items l i) (sym c.truncate.ensures.items)
    (subst (λ u. IsLeftBehind self.set (take l.frames self.frames.items) u self.levels.items l i)
    (sym c.undo.ensures.trail)
    (spent-left self.set self.frames.items self.trail self.levels.items l S i held none search trail))

pub returns-then-is_spent-clause-turn : goal.returns-then-is_spent-clause-turn
returns-then-is_spent-clause-turn c =
    let self = c.args.self.now in
    let x = self.set in
    let t = x.table.now in
    let S = c.requires.standing in
    let l = c.args.level in
    let ls = self.levels.items in (
      c.go_over.ensures.course,
      c.go_over.ensures.to_come
          ∙ ap (λ fs. behind_to_come x fs c.undo.new.self ls (read_of t fs c.undo.new.self l))
          c.truncate.ensures.items
          ∙ ap (λ u. behind_to_come x (take l.frames self.frames.items) u ls
          (read_of t (take l.frames self.frames.items) u l)) c.undo.ensures.trail
          ∙ spent-to_come x self.frames.items self.trail ls l S,
    )

pub returns-then-is_spent-clause-less : goal.returns-then-is_spent-clause-less
returns-then-is_spent-clause-less c =
    let self = c.args.self.now in
    let x = self.set in
    let t = x.table.now in
    let S = c.requires.standing in
    let l = c.args.level in
    let ls = self.levels.items in
    subst (λ n. course_visits c.go_over.new.self < n)
    (ap (λ fs. visits_behind x.sig.now x.code.now.instrs (map (read_of t fs c.undo.new.self) ls)
    (read_of t fs c.undo.new.self l)) c.truncate.ensures.items
    ∙ ap (λ u. visits_behind x.sig.now x.code.now.instrs
    (map (read_of t (take l.frames self.frames.items) u) ls)
    (read_of t (take l.frames self.frames.items) u l)) c.undo.ensures.trail
    ∙ spent-visits x self.frames.items self.trail ls l S)
    c.go_over.ensures.less
