use Rattle.std.proofs.Common.{drop, map}
use Rattle.std.specs.List.{AllByRecursion}
use Rattle.mp_io.specs.Moments.{sunk}
use Rattle.mp_pattern.specs.Planned.{IsPlanned, planned_rule, rule_plan}
use Rattle.mp_text.specs.File.{subject_tree}
use Rattle.mp_matches.specs.Computed.{subject_matches}
use Rattle.mp_matches.specs.Left.{IsWritable, left_of, printed}
use Rattle.mp_matches.proofs.SoFar.{IsSoFar}
use Rattle.mp_matches.proofs.matches.print_rules.Given as goal

abbrev pub invariant-loop-rule : goal.invariant-loop-rule
invariant-loop-rule g l = record {
  planned : AllByRecursion (IsPlanned l.sig) (map rule_plan (drop l.rule-index l.rules));
  writable : IsWritable l.left;
  printed : IsSoFar (printed l.sig (left_of l.fn.left)
      (subject_matches l.sig (map planned_rule l.rules) (subject_tree l.subject)))
      (printed l.sig (left_of l.left)
      (subject_matches l.sig (map planned_rule (drop l.rule-index l.rules)) (subject_tree l.subject)))
      (sunk g.O.Sink l.fn.out l.out) l.any;
}
