use Rattle.std.proofs.Common.{arith, map}
use Rattle.mp_io.specs.Moments.{sunk}
use Rattle.mp_pattern.specs.Planned.{IsPlanned, planned_rule, rule_plan}
use Rattle.mp_text.specs.File.{subject_tree}
use Rattle.mp_matches.specs.Computed.{rule_matches, subject_matches}
use Rattle.mp_matches.specs.Left.{left_of, printed}
use Rattle.mp_matches.proofs.Parts.{AllByRecursion-drop, parts-more, parts-stopped}
use Rattle.mp_matches.proofs.SoFar.{matches-err}
use Rattle.mp_matches.proofs.matches.print_rules.Goals as goal

pub returns-in_err-any-clause-prints : goal.returns-in_err-any-clause-prints
returns-in_err-any-clause-prints g c =
    let sig = c.args.sig.now in
    let before = sunk g.O.Sink c.args.out.now c.loop-rule.out in
    let after = sunk g.O.Sink c.loop-rule.out c.print_rule.new.out in
    let left = left_of c.print_rule.new.left in
    let whole = printed sig (left_of c.args.left.now)
    (subject_matches sig (map planned_rule c.args.rules.now) (subject_tree c.args.subject.now)) in
    matches-err whole (sunk g.O.Sink c.args.out.now c.print_rule.new.out) left c.in_err-any.field-0.0
    c.from_residual.result c.from_residual.ensures.1
    (parts-stopped planned_rule (rule_matches sig (subject_tree c.args.subject.now)) sig c.args.rules.now
    c.loop-rule.rule-index c.rule-item.result (omega arith) c.rule-item.is whole before.old before.new after.new
    before.faults before.faults_after after.faults_after c.loop-rule.any (left_of c.loop-rule.left) left
    c.loop-rule.invariant.printed c.in_err-any.field-0.0 c.in_err-any.ensures.prints)

pub loop-rule-preserved : goal.loop-rule-preserved
loop-rule-preserved g c =
    let sig = c.args.sig.now in
    let before = sunk g.O.Sink c.args.out.now c.loop-rule.out in
    let after = sunk g.O.Sink c.loop-rule.out c.print_rule.new.out in
    let whole = printed sig (left_of c.args.left.now)
    (subject_matches sig (map planned_rule c.args.rules.now) (subject_tree c.args.subject.now)) in
    record {
      planned =
          (AllByRecursion-drop rule_plan (IsPlanned sig) c.args.rules.now c.loop-rule.rule-index c.rule-item.result
          (omega arith) c.rule-item.is c.loop-rule.invariant.planned).1;
      writable = c.print_rule.ensures.writable;
      printed = parts-more planned_rule (rule_matches sig (subject_tree c.args.subject.now)) sig c.args.rules.now
          c.loop-rule.rule-index c.rule-item.result (omega arith) c.rule-item.is whole before.old before.new after.new
          before.faults before.faults_after after.faults_after c.loop-rule.any (left_of c.loop-rule.left)
          (left_of c.print_rule.new.left) c.loop-rule.invariant.printed c.in_ok-any.field-0 c.in_ok-any.ensures.prints;
    }
