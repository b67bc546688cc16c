use Rattle.std.proofs.Common.{◌≡◌, ◌≤◌, ◌<◌, ℕ, List, length, get_or, false}
use Rattle.std.specs.Prelude.{nat_eq}
use Rattle.mp_line.proofs.words.last_place.Given as goal

-- the byte isn't at the end or behind it
pub record Passed (byte : ℕ) (text : List ℕ) (end : ℕ) : Type 0 where
  pub within : end ≤ length text
  pub behind : (k : ℕ) → end ≤ k → k < length text → nat_eq (get_or text k 0) byte ≡ false

abbrev pub invariant-loop-end : goal.invariant-loop-end
invariant-loop-end l = Passed l.byte l.text l.end

abbrev pub decreases-loop-end : goal.decreases-loop-end
decreases-loop-end l = l.end
