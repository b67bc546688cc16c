use Rattle.std.proofs.Common.{subst}
use Rattle.std.specs.Prelude.{IfOk}
use Rattle.mp_walk.specs.CodeConstants.{AreCodeConstants}
use Rattle.mp_walk.specs.Walkable.{IsWalkable}
use Rattle.mp_many.specs.WalkConstants.{AreWalkConstants}
use Rattle.mp_many.proofs.WalkableLaws.{walkable}
use Rattle.mp_many.proofs.many.Many.constants.Goals as goal

pub returns : goal.returns
returns c =
    let m = c.self.inside in
    let sig = m.sig.now in
    let rules = m.rules.now in
    subst (λ v. IfOk c.constants.result (AreWalkConstants v)) c.self.view_is
    (subst (λ code. IsWalkable sig code → IfOk c.constants.result (AreCodeConstants sig code)) c.self.invariant.tree
    (c.constants.ensures sig) (walkable sig rules c.self.invariant.sound.each))
