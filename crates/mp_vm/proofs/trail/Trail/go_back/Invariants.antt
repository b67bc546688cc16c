use Rattle.std.proofs.Common.{List, length}
use Rattle.mp_vm.specs.TrailView.{HasTrail}
use Rattle.mp_vm.specs.declared.code.Setting.{Setting}
use Rattle.mp_vm.specs.declared.ways.Way.{Way}
use Rattle.mp_vm.proofs.trail.Trail.go_back.Given as goal

abbrev pub invariant-loop-self : goal.invariant-loop-self
invariant-loop-self l = (s : Setting) (ws : List Way) → HasTrail s ws l.fn.self → HasTrail s ws l.self

abbrev pub decreases-loop-self : goal.decreases-loop-self
decreases-loop-self l = length l.self.steps.items
