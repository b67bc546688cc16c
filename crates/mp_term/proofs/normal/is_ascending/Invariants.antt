use Rattle.std.proofs.Common.{◌≡◌, map, drop}
use Rattle.mp_term.specs.View.{tree}
use Rattle.mp_term.specs.NormalTest.{ascending}
use Rattle.mp_term.proofs.normal.is_ascending.Given as goal

abbrev pub invariant-loop-i : goal.invariant-loop-i
invariant-loop-i l = ascending (map tree (drop l.i l.terms)) ≡ ascending (map tree l.terms)
