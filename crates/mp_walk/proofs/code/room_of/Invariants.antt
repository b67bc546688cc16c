use Rattle.std.proofs.Common.{◌≡◌, ◌≤◌, ◌<◌, ℕ, suc, length}
use Rattle.std.specs.Prelude.{Some, slice_index_or}
use Rattle.mp_walk.specs.Rooms.{target_room}
use Rattle.mp_walk.proofs.code.room_of.Given as goal

-- the rooms of the instructions from there on are known
abbrev pub invariant-loop-left : goal.invariant-loop-left
invariant-loop-left l = record {
  within : l.left ≤ length l.instrs;
  count : length l.rooms.items ≡ length l.instrs;
  known : (k : ℕ) → l.left ≤ k → k < length l.instrs
      → slice_index_or l.rooms.items k 0 ≡ target_room l.instrs (Some (suc k));
}

abbrev pub decreases-loop-left : goal.decreases-loop-left
decreases-loop-left l = l.left
