use Rattle.std.proofs.Common.{◌≡◌, [], take, drop}
use Rattle.mp_term.specs.EditFault.{overlap_after}
use Rattle.mp_term.proofs.edit_check.first_overlap.Given as goal

abbrev pub invariant-loop-second : goal.invariant-loop-second
invariant-loop-second l = overlap_after (take l.second l.edits) (drop l.second l.edits) ≡ overlap_after [] l.edits
