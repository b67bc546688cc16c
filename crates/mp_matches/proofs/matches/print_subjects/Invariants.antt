use Rattle.std.proofs.Common.{drop, map}
use Rattle.std.specs.List.{AllByRecursion}
use Rattle.mp_io.specs.Moments.{sunk}
use Rattle.mp_pattern.specs.Planned.{planned_rule}
use Rattle.mp_text.specs.File.{subject_tree}
use Rattle.mp_text.specs.Sound.{IsSoundSubject}
use Rattle.mp_matches.specs.Computed.{all_matches}
use Rattle.mp_matches.specs.Left.{IsWritable, left_of, printed}
use Rattle.mp_matches.proofs.SoFar.{IsSoFar}
use Rattle.mp_matches.proofs.matches.print_subjects.Given as goal

abbrev pub invariant-loop-subject : goal.invariant-loop-subject
invariant-loop-subject g l = record {
  subjects : AllByRecursion (IsSoundSubject l.sig) (map subject_tree (drop l.subject-index l.subjects));
  writable : IsWritable l.left;
  printed : IsSoFar (printed l.sig (left_of l.fn.left)
      (all_matches l.sig (map planned_rule l.rules) (map subject_tree l.subjects)))
      (printed l.sig (left_of l.left)
      (all_matches l.sig (map planned_rule l.rules) (map subject_tree (drop l.subject-index l.subjects))))
      (sunk g.O.Sink l.fn.out l.out) l.any;
}
