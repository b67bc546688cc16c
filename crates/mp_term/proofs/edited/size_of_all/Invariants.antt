use Rattle.std.proofs.Common.{map, take}
use Rattle.mp_term.specs.View.{tree}
use Rattle.mp_term.specs.Excess.{IsSizeOf}
use Rattle.mp_term.proofs.edited.size_of_all.Given as goal

abbrev pub invariant-loop-term : goal.invariant-loop-term
invariant-loop-term l = IsSizeOf l.all (map tree (take l.term-index l.terms))
