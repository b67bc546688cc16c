use Rattle.std.proofs.Common.{◌≡◌, drop}
use Rattle.mp_line.specs.Named.{names_in}
use Rattle.mp_vm.specs.RuleNeeds.{with_places}
use Rattle.mp_vm.proofs.needs.add_places.Given as goal

abbrev pub invariant-loop-name : goal.invariant-loop-name
invariant-loop-name l =
    with_places l.places.items (names_in (drop l.name-index l.names))
    ≡ with_places l.fn.places.items (names_in l.names)
