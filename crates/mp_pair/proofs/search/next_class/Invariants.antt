use Rattle.std.proofs.Common.{ℕ, ◌<◌, ◌≤◌, ◌++◌, ◌∷◌, [], get_or}
use Rattle.mp_pair.specs.Bipartite.{lists}
use Rattle.mp_pair.specs.PairingSteps.{IsDeadEnd}
use Rattle.mp_pair.proofs.search.next_class.Given as goal

abbrev pub invariant-loop-class : goal.invariant-loop-class
invariant-loop-class l = (k : ℕ) → k < l.class-index → l.bound ≤ get_or l.classes k 0 →
    IsDeadEnd l.capacities (lists l.left) (l.chosen ++ get_or l.classes k 0 ∷ [])
