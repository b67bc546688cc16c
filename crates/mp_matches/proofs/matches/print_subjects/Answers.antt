use Rattle.std.proofs.Common.{arith, map}
use Rattle.mp_io.specs.Moments.{sunk}
use Rattle.mp_pattern.specs.Planned.{planned_rule}
use Rattle.mp_text.specs.File.{subject_tree}
use Rattle.mp_text.specs.Sound.{IsSoundSubject}
use Rattle.mp_matches.specs.Computed.{all_matches, subject_matches}
use Rattle.mp_matches.specs.Left.{left_of, printed}
use Rattle.mp_matches.proofs.Parts.{AllByRecursion-drop, parts-more, parts-stopped}
use Rattle.mp_matches.proofs.SoFar.{matches-err}
use Rattle.mp_matches.proofs.matches.print_subjects.Goals as goal

pub returns-in_err-any-clause-prints : goal.returns-in_err-any-clause-prints
returns-in_err-any-clause-prints g c =
    let sig = c.args.sig.now in
    let before = sunk g.O.Sink c.args.out.now c.loop-subject.out in
    let after = sunk g.O.Sink c.loop-subject.out c.print_rules.new.out in
    let left = left_of c.print_rules.new.left in
    let whole = printed sig (left_of c.args.left.now)
    (all_matches sig (map planned_rule c.args.rules.now) (map subject_tree c.args.subjects.now)) in
    matches-err whole (sunk g.O.Sink c.args.out.now c.print_rules.new.out) left c.in_err-any.field-0.0
    c.from_residual.result c.from_residual.ensures.1
    (parts-stopped subject_tree (subject_matches sig (map planned_rule c.args.rules.now)) sig c.args.subjects.now
    c.loop-subject.subject-index c.subject-item.result (omega arith) c.subject-item.is whole before.old before.new
    after.new before.faults before.faults_after after.faults_after c.loop-subject.any (left_of c.loop-subject.left) left
    c.loop-subject.invariant.printed c.in_err-any.field-0.0 c.in_err-any.ensures.prints)

pub loop-subject-preserved : goal.loop-subject-preserved
loop-subject-preserved g c =
    let sig = c.args.sig.now in
    let before = sunk g.O.Sink c.args.out.now c.loop-subject.out in
    let after = sunk g.O.Sink c.loop-subject.out c.print_rules.new.out in
    let whole = printed sig (left_of c.args.left.now)
    (all_matches sig (map planned_rule c.args.rules.now) (map subject_tree c.args.subjects.now)) in
    record {
      subjects =
          (AllByRecursion-drop subject_tree (IsSoundSubject sig) c.args.subjects.now c.loop-subject.subject-index
          c.subject-item.result (omega arith) c.subject-item.is c.loop-subject.invariant.subjects).1;
      writable = c.print_rules.ensures.writable;
      printed = parts-more subject_tree (subject_matches sig (map planned_rule c.args.rules.now)) sig
          c.args.subjects.now c.loop-subject.subject-index c.subject-item.result (omega arith) c.subject-item.is whole
          before.old before.new after.new before.faults before.faults_after after.faults_after c.loop-subject.any
          (left_of c.loop-subject.left) (left_of c.print_rules.new.left) c.loop-subject.invariant.printed
          c.in_ok-any.field-0 c.in_ok-any.ensures.prints;
    }
