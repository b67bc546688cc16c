use Rattle.std.proofs.Common.{◌≤◌, ◌<◌, ◌-◌, [], get_or, length, take}
use Rattle.std.specs.Prelude.{slice_get}
use Rattle.mp_many.proofs.RunLaws.{HaveAt}
use Rattle.mp_many.proofs.group.alike.Given as goal

abbrev pub invariant-loop-count : goal.invariant-loop-count
invariant-loop-count l = record {
  some : 0 < l.count;
  within : l.count ≤ length l.numbers;
  alike : HaveAt l.lists l.place (slice_get (get_or l.lists (get_or l.numbers 0 0) []) l.place)
      (take l.count l.numbers);
}

abbrev pub decreases-loop-count : goal.decreases-loop-count
decreases-loop-count l = length l.numbers - l.count
