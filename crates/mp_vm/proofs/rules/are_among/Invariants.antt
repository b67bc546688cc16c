use Rattle.std.proofs.Common.{◌≡◌, drop}
use Rattle.std.specs.List.{list_all}
use Rattle.mp_pattern.specs.Firsts.{is_known}
use Rattle.mp_pattern.specs.Value.{same_name}
use Rattle.mp_line.specs.Named.{names_in}
use Rattle.mp_vm.proofs.rules.are_among.Given as goal

abbrev pub invariant-loop-name : goal.invariant-loop-name
invariant-loop-name l = list_all (is_known same_name l.vars) (names_in (drop l.name-index l.names))
    ≡ list_all (is_known same_name l.vars) (names_in l.names)
