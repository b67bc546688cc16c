use Rattle.std.proofs.Common.{◌≡◌, drop}
use Rattle.mp_term.specs.View.{tree}
use Rattle.mp_term.specs.Positions.{subterm}
use Rattle.mp_term.proofs.term.at.Given as goal

abbrev pub invariant-loop-index : goal.invariant-loop-index
invariant-loop-index l = subterm (tree l.here) (drop l.index-index l.position) ≡ subterm (tree l.term) l.position
