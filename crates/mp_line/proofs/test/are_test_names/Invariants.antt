use Rattle.std.proofs.Common.{◌≡◌, drop}
use Rattle.mp_line.specs.Named.{names_in, are_test_names}
use Rattle.mp_line.proofs.test.are_test_names.Given as goal

abbrev pub invariant-loop-name : goal.invariant-loop-name
invariant-loop-name l = are_test_names (names_in (drop l.name-index l.names)) ≡ are_test_names (names_in l.names)
