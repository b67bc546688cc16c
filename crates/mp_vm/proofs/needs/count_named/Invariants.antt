use Rattle.std.proofs.Common.{◌≡◌, drop, max}
use Rattle.mp_line.specs.Named.{names_in}
use Rattle.mp_vm.specs.RuleNeeds.{count_named}
use Rattle.mp_vm.proofs.needs.count_named.Given as goal

abbrev pub invariant-loop-name : goal.invariant-loop-name
invariant-loop-name l =
    max l.count (count_named (names_in (drop l.name-index l.names))) ≡ count_named (names_in l.names)
