use Rattle.std.proofs.Common.{◌≡◌, length}
use Rattle.mp_pattern.specs.RuleView.{rule_tree}
use Rattle.mp_text.specs.File.{subject_tree}
use Rattle.mp_matches.specs.Computed.{matches_of}
use Rattle.mp_matches.specs.Left.{IsWritable, left_of, printed}
use Rattle.mp_matches.specs.Match.{GoesOver}
use Rattle.mp_matches.proofs.PutLaws.{IsPutSoFar}
use Rattle.mp_matches.proofs.matches.put_to_come.Given as goal

abbrev pub invariant-loop-any : goal.invariant-loop-any
invariant-loop-any g l = record {
  sig : l.cursor.sig ≡ l.fn.cursor.sig;
  over : GoesOver (subject_tree l.subject) (rule_tree l.rule) l.cursor;
  writable : IsWritable l.left;
  put : IsPutSoFar g.O.Sink (printed l.fn.cursor.sig (left_of l.fn.left)
      (matches_of (subject_tree l.subject) (rule_tree l.rule) l.fn.cursor.to_come))
      (printed l.fn.cursor.sig (left_of l.left)
      (matches_of (subject_tree l.subject) (rule_tree l.rule) l.cursor.to_come))
      l.fn.out l.out l.any;
}

abbrev pub decreases-loop-any : goal.decreases-loop-any
decreases-loop-any g l = length l.cursor.to_come
