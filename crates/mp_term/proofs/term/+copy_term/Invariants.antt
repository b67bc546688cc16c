use Rattle.std.proofs.Common.{◌≡◌, ◌++◌, map, drop}
use Rattle.mp_term.specs.View.{tree}
use Rattle.mp_term.proofs.term.+copy_term.Given as goal

abbrev pub invariant-copy_terms-loop-term : goal.invariant-copy_terms-loop-term
invariant-copy_terms-loop-term l = l.copies ++ map tree (drop l.term-index l.term-items) ≡ l.terms
