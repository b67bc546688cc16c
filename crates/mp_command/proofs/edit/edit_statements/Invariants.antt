use Rattle.std.proofs.Common.{drop}
use Rattle.std.specs.Prelude.{Ok}
use Rattle.std.specs.List.{AllByRecursion}
use Rattle.mp_io.specs.Moments.{sunk}
use Rattle.mp_text.specs.Sound.{IsSoundEditSet}
use Rattle.mp_command.specs.Answers.{GoesOn}
use Rattle.mp_command.specs.Outcome.{edits_made}
use Rattle.mp_command.proofs.edit.edit_statements.Given as goal

-- the statements so far have their lines
abbrev pub invariant-loop-set : goal.invariant-loop-set
invariant-loop-set g l =
    let left = edits_made l.sig l.subjects in
    record {
      so_far : GoesOn (left l.sets) (left (drop l.set-index l.sets)) (sunk g.O.Sink l.fn.out l.out) (Ok tt);
      sound : AllByRecursion (IsSoundEditSet l.sig l.subjects) (drop l.set-index l.sets);
    }
