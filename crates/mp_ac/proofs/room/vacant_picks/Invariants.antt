use Rattle.std.proofs.Common.{◌≡◌, ◌≤◌, length}
use Rattle.std.specs.List.{AllByRecursion}
use Rattle.mp_ac.proofs.room.vacant_picks.Given as goal

abbrev pub invariant-loop : goal.invariant-loop
invariant-loop l = record {
  counted : length l.picks.items ≡ l.counter;
  rooms : AllByRecursion (λ k. l.width ≤ k.rest.room) l.picks.items;
}
