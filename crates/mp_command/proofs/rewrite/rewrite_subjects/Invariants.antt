use Rattle.std.proofs.Common.{drop, map}
use Rattle.std.specs.Prelude.{Ok}
use Rattle.std.specs.List.{AllByRecursion}
use Rattle.mp_io.specs.Moments.{sunk}
use Rattle.mp_rewrite.specs.Rewritable.{IsRewritable}
use Rattle.mp_text.specs.File.{subject_tree}
use Rattle.mp_command.specs.Answers.{GoesOn}
use Rattle.mp_command.proofs.Rewrites.{subjects_left}
use Rattle.mp_command.proofs.rewrite.rewrite_subjects.Given as goal

-- the subjects so far have their lines
abbrev pub invariant-loop-subject : goal.invariant-loop-subject
invariant-loop-subject g l =
    let left = subjects_left l.sig l.max l.rules in
    record {
      so_far : GoesOn (left l.subjects) (left (drop l.subject-index l.subjects)) (sunk g.O.Sink l.fn.out l.out) (Ok tt);
      rewritable : AllByRecursion (λ s. IsRewritable l.sig s.term)
          (map subject_tree (drop l.subject-index l.subjects));
    }
