use Rattle.std.proofs.Common.{◌≡◌}
use Rattle.mp_base_tests.proofs.choices.next_bags.Given as goal

abbrev pub invariant-loop : goal.invariant-loop
invariant-loop g l = l.bags.room ≡ l.initial.bags.room
