use Rattle.std.proofs.Common.{◌≡◌, length}
use Rattle.std.specs.List.{AllByRecursion}
use Rattle.mp_cursor.specs.Kept.{HasRoom}
use Rattle.mp_cursor.proofs.kept.kept_takes.Given as goal

abbrev pub invariant-loop : goal.invariant-loop
invariant-loop l = record {
  count : length l.kept.items ≡ l.counter;
  roomy : AllByRecursion (HasRoom l.width) l.kept.items;
}
