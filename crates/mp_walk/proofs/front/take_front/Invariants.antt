use Rattle.std.proofs.Common.{◌≡◌, ◌≤◌, ◌<◌, ◌-◌, ◌+◌, ℕ, List, []}
use Rattle.mp_pattern.specs.NetTokenView.{net_token}
use Rattle.mp_walk.specs.OpenOnes.{open_of}
use Rattle.mp_walk.specs.TokenMachine.{Open}
use Rattle.mp_ac.specs.Numbered.{numbered_subst}
use Rattle.mp_walk.specs.Ways.{way_steps}
use Rattle.mp_walk.proofs.front.take_front.Given as goal

abbrev pub invariant-loop-count : goal.invariant-loop-count
invariant-loop-count l = record {
  trail : l.trail ≡ l.initial.trail;
  onward : l.from ≤ l.count;
  earlier : (fs : List Open) (n : ℕ) → l.from ≤ n → n < l.count
      → way_steps l.sig (open_of l.table l.frame) fs (numbered_subst l.table l.trail.stack) (net_token l.token) n ≡ [];
}

abbrev pub decreases-loop-count : goal.decreases-loop-count
decreases-loop-count l = l.longest + 1 - l.count
