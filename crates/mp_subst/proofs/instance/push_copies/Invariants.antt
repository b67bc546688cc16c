use Rattle.std.proofs.Common.{◌≡◌, ◌++◌, map, drop}
use Rattle.mp_term.specs.View.{tree}
use Rattle.mp_subst.proofs.instance.push_copies.Given as goal

abbrev pub invariant-loop-term : goal.invariant-loop-term
invariant-loop-term l = l.out ++ map tree (drop l.term-index l.terms) ≡ l.fn.out ++ map tree l.terms
