use Rattle.std.proofs.Common.{◌≡◌, drop, map}
use Rattle.std.specs.List.{list_any}
use Rattle.mp_vm.specs.Looks.{look_wildcard}
use Rattle.mp_vm.specs.RuleNeeds.{is_sequence_at}
use Rattle.mp_vm.proofs.needs.has_sequence.Given as goal

abbrev pub invariant-loop-place : goal.invariant-loop-place
invariant-loop-place l =
    list_any (is_sequence_at (map look_wildcard l.looks)) (drop l.place-index l.places)
    ≡ list_any (is_sequence_at (map look_wildcard l.looks)) l.places
