use Rattle.std.proofs.Common.{◌≡◌, drop}
use Rattle.mp_term.specs.Names.{are_distinct}
use Rattle.mp_vm.proofs.rules.are_distinct.Given as goal

abbrev pub invariant-loop-index : goal.invariant-loop-index
invariant-loop-index l = are_distinct (drop l.index l.names) ≡ are_distinct l.names
