use Rattle.mp_walk.proofs.ViewLaws.{going-course}
use Rattle.mp_walk.proofs.walk.Walk.next.Goals as goal

pub advance-requires : goal.advance-requires
advance-requires c =
    going-course c.self.inside.stage c.self.inside.course c.in_default.not-Ended c.in_default.not-Failed
    c.self.invariant
