use Rattle.std.proofs.Common.{◌≡◌, ◌++◌, drop, map, take}
use Rattle.mp_many.specs.Groups.{entered}
use Rattle.mp_many.specs.GroupView.{group_of}
use Rattle.mp_many.specs.TokenView.{read_token}
use Rattle.mp_many.proofs.group.enter.Given as goal

abbrev pub invariant-loop-index : goal.invariant-loop-index
invariant-loop-index l =
    let gs = map group_of l.groups.items in
    record {
      kept : l.groups.items ≡ l.fn.groups.items;
      entered : entered gs (read_token l.token) l.numbers
          ≡ take l.index gs ++ entered (drop l.index gs) (read_token l.token) l.numbers;
    }
