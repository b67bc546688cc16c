use Rattle.std.proofs.Common.{◌≡◌, [], length, map}
use Rattle.std.specs.List.{AllByRecursion}
use Rattle.mp_many.specs.Groups.{left_at}
use Rattle.mp_many.specs.GroupView.{group_of, IsDigested}
use Rattle.mp_many.specs.Marks.{AreMarked}
use Rattle.mp_many.proofs.GroupLaws.{AreWithin, entered_all}
use Rattle.mp_many.proofs.group.groups_of.Given as goal

abbrev pub invariant-loop-rest : goal.invariant-loop-rest
invariant-loop-rest l = record {
  within : AreWithin l.lists l.rest;
  groups : entered_all (map group_of l.groups.items) (left_at l.lists l.place l.rest)
      ≡ entered_all [] (left_at l.lists l.place l.numbers);
  digests : AllByRecursion IsDigested l.groups.items;
  marked : AreMarked l.marks.items (map group_of l.groups.items);
}

abbrev pub decreases-loop-rest : goal.decreases-loop-rest
decreases-loop-rest l = length l.rest
