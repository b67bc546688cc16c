use Rattle.std.proofs.Common.{length, sym, subst}
use Rattle.mp_walk.specs.Levels.{AreLevels}
use Rattle.mp_walk.specs.OpenOnes.{AreFrames}
use Rattle.mp_walk.proofs.course.Course.entry.Goals as goal

pub entry_among-requires-clause-frames : goal.entry_among-requires-clause-frames
entry_among-requires-clause-frames c =
    let self = c.args.self.now in
    subst (AreFrames self.set.sig.now self.set.table.now) (sym c.deref.ensures.value) c.requires.frames

pub entry_among-requires-clause-levels : goal.entry_among-requires-clause-levels
entry_among-requires-clause-levels c =
    let self = c.args.self.now in (
      self.trail,
      length self.trail.stack,
      subst (λ ls. AreLevels self.set c.deref.result.now self.trail ls (length c.deref.result.now)
          (length self.trail.stack)) (sym c.deref-2.ensures.value)
          (subst (λ fs. AreLevels self.set fs self.trail self.levels.items (length fs)
          (length self.trail.stack)) (sym c.deref.ensures.value) c.requires.levels),
    )
