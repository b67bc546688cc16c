use Rattle.std.proofs.Common.{◌≡◌, ◌++◌, drop}
use Rattle.mp_walk.specs.Ranked.{pairs_of}
use Rattle.mp_vm.proofs.runner.run_program.Given as goal

abbrev pub invariant-loop-pair : goal.invariant-loop-pair
invariant-loop-pair l = l.pairs ++ pairs_of (drop l.pair-index l.pair-items) ≡ pairs_of l.pair-items
