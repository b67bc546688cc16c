use Rattle.std.proofs.Common.{◌≡◌, drop}
use Rattle.mp_pattern.specs.Value.{value_of}
use Rattle.mp_table.specs.Table.{Table}
use Rattle.mp_net.specs.Walk.{taken_subst, AreHeld}
use Rattle.mp_net.proofs.taken.taken_by.Given as goal

abbrev pub invariant-loop-other : goal.invariant-loop-other
invariant-loop-other l = ((t : Table) → value_of (taken_subst t (drop l.other-index l.taken)) l.name
    ≡ value_of (taken_subst t l.taken) l.name)
    × ((t : Table) → AreHeld t l.taken → AreHeld t (drop l.other-index l.taken))
