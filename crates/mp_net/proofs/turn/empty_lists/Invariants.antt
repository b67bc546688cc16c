use Rattle.std.proofs.Common.{◌≡◌, [], replicate}
use Rattle.mp_net.specs.Items.{listed}
use Rattle.mp_net.proofs.turn.empty_lists.Given as goal

abbrev pub invariant-loop : goal.invariant-loop
invariant-loop l = listed l.lists.items ≡ replicate l.counter []
