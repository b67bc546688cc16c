use Rattle.std.proofs.Common.{◌≡◌}
use Rattle.mp_many.specs.Groups.{count_from}
use Rattle.mp_many.proofs.tree.first_numbers.Given as goal

abbrev pub invariant-loop-number : goal.invariant-loop-number
invariant-loop-number l = l.numbers.items ≡ count_from 0 l.number
