use Rattle.std.proofs.Common.{◌≡◌, ◌++◌, map, drop}
use Rattle.mp_term.specs.View.{tree}
use Rattle.mp_one.specs.Lists.{trees_of}
use Rattle.mp_one.proofs.terms.references.Given as goal

abbrev pub invariant-loop-term : goal.invariant-loop-term
invariant-loop-term l = trees_of l.all.items ++ map tree (drop l.term-index l.terms) ≡ map tree l.terms
