use Rattle.std.proofs.Common.{◌≡◌, drop}
use Rattle.mp_pattern.specs.Firsts.{is_known}
use Rattle.mp_pattern.specs.Value.{same_name}
use Rattle.mp_vm.proofs.rules.is_among.Given as goal

abbrev pub invariant-loop-index : goal.invariant-loop-index
invariant-loop-index l =
    is_known same_name (drop l.index l.names) l.name ≡ is_known same_name (drop l.from l.names) l.name
