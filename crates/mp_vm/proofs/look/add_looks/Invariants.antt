use Rattle.std.proofs.Common.{◌≡◌, drop, map}
use Rattle.mp_vm.specs.Looks.{look_wildcard, use_view, with_looks}
use Rattle.mp_vm.proofs.look.add_looks.Given as goal

abbrev pub invariant-loop-occurrence : goal.invariant-loop-occurrence
invariant-loop-occurrence l =
    with_looks (map look_wildcard l.looks.items) (map use_view (drop l.occurrence-index l.uses))
    ≡ with_looks (map look_wildcard l.fn.looks.items) (map use_view l.uses)
