use Rattle.std.proofs.Common.{◌≡◌, ◌<◌, ◌-◌, ℕ, suc, map, length}
use Rattle.std.specs.Prelude.{slice_get}
use Rattle.mp_term.specs.View.{tree}
use Rattle.mp_rewrite.proofs.taken.pair_place.Given as goal

-- no argument so far is the same as the one behind it
abbrev pub invariant-loop-place : goal.invariant-loop-place
invariant-loop-place l =
    (k : ℕ) → k < l.place → slice_get (map tree l.args) k ≡ slice_get (map tree l.args) (suc k) → ⊥

abbrev pub decreases-loop-place : goal.decreases-loop-place
decreases-loop-place l = length l.args - l.place
