use Rattle.std.proofs.Common.{◌≡◌, length}
use Rattle.std.specs.List.{AllByRecursion}
use Rattle.mp_search.specs.Levels.{rooms_of, IsVacant}
use Rattle.mp_search.proofs.level.vacant_levels.Given as goal

abbrev pub invariant-loop : goal.invariant-loop
invariant-loop l = record {
  counted : length l.levels.items ≡ l.counter;
  vacant : AllByRecursion IsVacant l.levels.items;
  rooms : AllByRecursion (λ v. rooms_of v ≡ (l.width, l.width, l.width)) l.levels.items;
}
