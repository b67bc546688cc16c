use Rattle.std.proofs.Common.{◌≡◌, List, drop, map}
use Rattle.std.specs.List.{AllByRecursion}
use Rattle.mp_io.specs.Devices.{Text}
use Rattle.mp_text.specs.File.{subject_tree}
use Rattle.mp_text.specs.Sound.{IsSoundSubject}
use Rattle.mp_matches.specs.PairsListed.{AreSubjectLines, front_lines, named}
use Rattle.mp_matches.specs.Matches.{IsJoinedBy}
use Rattle.mp_matches.specs.PrintedPairs.{PutsUpTo}
use Rattle.mp_matches.specs.declared.told.Told.TheVariants as told
use Rattle.mp_matches.proofs.pairs.put_subjects.Given as goal

abbrev pub invariant-loop-subject : goal.invariant-loop-subject
invariant-loop-subject g l = record {
  same : l.out.sink.ghost_name ≡ l.fn.out.sink.ghost_name;
  subjects : AllByRecursion (IsSoundSubject l.sig)
      (map subject_tree (drop l.subject-index l.subjects));
  put : (all : List Text)
      → IsJoinedBy (AreSubjectLines l.sig (named l.names) (g.M.Matcher.finds l.matcher))
      (map subject_tree l.subjects) all
      → (rest : List Text)
      × IsJoinedBy (AreSubjectLines l.sig (named l.names) (g.M.Matcher.finds l.matcher))
      (map subject_tree (drop l.subject-index l.subjects)) rest
      × PutsUpTo g.O.Sink (front_lines l.fn.left all) (front_lines l.left rest) l.fn.out l.out (told.All l.any);
}
