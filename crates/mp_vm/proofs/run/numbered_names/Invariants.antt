use Rattle.std.proofs.Common.{◌≡◌}
use Rattle.mp_walk.specs.Walkable.{numbered_names}
use Rattle.mp_vm.proofs.run.numbered_names.Given as goal

abbrev pub invariant-loop-number : goal.invariant-loop-number
invariant-loop-number l = l.names ≡ numbered_names l.number
