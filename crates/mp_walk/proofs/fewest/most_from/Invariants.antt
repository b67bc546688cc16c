use Rattle.std.proofs.Common.{◌+◌, ◌-◌, ℕ, List, length}
use Rattle.std.specs.Prelude.{Option, Some, None}
use Rattle.mp_search.specs.Frames.{above}
use Rattle.mp_walk.specs.Instrs.{Instr}
use Rattle.mp_walk.specs.Most.{TakeAtMost}
use Rattle.mp_walk.proofs.fewest.most_from.Given as goal

-- what the tokens from the target on take, with what those before it took, is what those from the first one on take
abbrev pub invariant-loop-target : goal.invariant-loop-target
invariant-loop-target l = record {
  most : (n : ℕ) → TakeAtMost l.sig l.code.instrs (above l.under) l.target n
      → TakeAtMost l.sig l.code.instrs (above l.under) l.fn.first (l.most + n);
}

-- how many instructions stand from a target on: targets rise
abbrev pub behind : List Instr → Option ℕ → ℕ
behind code None = 0
behind code (Some n) = length code + 1 - n

abbrev pub decreases-loop-target : goal.decreases-loop-target
decreases-loop-target l = behind l.code.instrs l.target
