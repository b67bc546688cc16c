use Rattle.std.proofs.Common.{length, sym, subst}
use Rattle.mp_walk.specs.InstrView.{plain_instr}
use Rattle.mp_walk.specs.OpenOnes.{IsPlaceBelow, AreFrames}
use Rattle.mp_walk.proofs.EndedLaws.{none-there, spent-ended}
use Rattle.mp_walk.proofs.LevelLaws.{below-more}
use Rattle.mp_walk.proofs.SpentLaws.{IsSpentIn}
use Rattle.mp_walk.proofs.course.Course.is_ended.Goals as goal

pub is_spent-requires-clause-frames : goal.is_spent-requires-clause-frames
is_spent-requires-clause-frames c =
    let self = c.args.self.now in
    subst (AreFrames self.set.sig.now self.set.table.now) (sym c.deref.ensures.value) c.requires.standing.frames

pub is_spent-requires-clause-place : goal.is_spent-requires-clause-place
is_spent-requires-clause-place c =
    let self = c.args.self.now in
    let l = c.args.level.now in
    subst (λ fs. IsPlaceBelow (length fs) l.place) (sym c.deref.ensures.value)
    (below-more l.frames (length self.frames.items) c.requires.standing.places l.place
    c.requires.standing.last.place)

pub returns-then-is_none : goal.returns-then-is_none
returns-then-is_none c = λ spent.
    let self = c.args.self.now in
    let l = c.args.level.now in
    let i = plain_instr c.args.instr.now in
    spent-ended self.set self.frames.items self.trail self.levels.items l c.requires.standing i c.requires.instr
    (none-there i.over c.is_none.result c.is_none.ensures c.if-is_none.true)
    (subst (λ fs. IsSpentIn self.set fs l.place i l.next) c.deref.ensures.value (c.is_spent.ensures.none spent))
    (c.is_spent.ensures.single spent)
