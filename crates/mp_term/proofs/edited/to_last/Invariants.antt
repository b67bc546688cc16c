use Rattle.std.proofs.Common.{◌≤◌, take}
use Rattle.mp_term.specs.EditWalk.{FindsSame}
use Rattle.mp_term.proofs.edited.to_last.Given as goal

abbrev pub invariant-loop-index : goal.invariant-loop-index
invariant-loop-index l = record {
  behind : l.end ≤ l.index;
  same : FindsSame l.position (take l.index l.edits) (take l.end l.edits);
}
