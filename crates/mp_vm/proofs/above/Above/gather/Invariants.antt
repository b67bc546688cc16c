use Rattle.std.proofs.Common.{◌≡◌, ◌++◌, reverse}
use Rattle.mp_walk.specs.Walkable.{Path}
use Rattle.mp_vm.specs.Known.{IsGoodPath, IsGathered, tokens_in}
use Rattle.mp_vm.proofs.above.Above.gather.Given as goal

abbrev pub invariant-loop-token : goal.invariant-loop-token
invariant-loop-token l = IsGoodPath l.sig l.most (reverse (tokens_in l.fn.tokens.items))
    → (front : Path) × (front ++ reverse (tokens_in l.tokens.items) ≡ reverse (tokens_in l.fn.tokens.items))
    × IsGathered l.sig l.most l.self front

abbrev pub decreases-loop-token : goal.decreases-loop-token
decreases-loop-token l = goal.left-loop-token l
