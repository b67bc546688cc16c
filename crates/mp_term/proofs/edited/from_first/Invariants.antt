use Rattle.std.proofs.Common.{drop}
use Rattle.mp_term.specs.EditWalk.{FindsSame}
use Rattle.mp_term.proofs.edited.from_first.Given as goal

abbrev pub invariant-loop-index : goal.invariant-loop-index
invariant-loop-index l = FindsSame l.position l.edits (drop l.index l.edits)
