use Rattle.std.proofs.Common.{◌≡◌, ◌++◌, drop}
use Rattle.std.specs.Prelude.{flat_map}
use Rattle.mp_many.specs.Groups.{left_at}
use Rattle.mp_many.specs.Laid.{ended}
use Rattle.mp_many.proofs.GroupLaws.{AreWithin}
use Rattle.mp_many.proofs.group.ended.Given as goal

abbrev pub invariant-loop-number : goal.invariant-loop-number
invariant-loop-number l = record {
  within : AreWithin l.lists (drop l.number-index l.numbers);
  ended : l.ended ++ flat_map ended (left_at l.lists l.place (drop l.number-index l.numbers))
      ≡ flat_map ended (left_at l.lists l.place l.numbers);
}
