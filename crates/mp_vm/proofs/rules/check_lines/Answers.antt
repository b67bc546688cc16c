use Rattle.std.proofs.Common.{◌++◌, ◌∷◌, [], length, map, take, sym, ap, ◌∙◌, arith}
use Rattle.std.specs.Prelude.{not, nat_eq}
use Rattle.std.proofs.lemmas.List.{map_push}
use Rattle.mp_pattern.specs.Firsts.{firsts_after}
use Rattle.mp_program.specs.declared.fault.ProgramError.TheVariants.{BadReference}
use Rattle.mp_program.specs.Form.{RuleLine}
use Rattle.mp_program.specs.FormFaults.{faults_along, rule_faults, fault_if, used_test, used_tests}
use Rattle.mp_program.specs.RuleView.{rule_test, rule_line_view}
use Rattle.mp_program.proofs.FaultLaws.{fine-rule}
use Rattle.mp_vm.proofs.CheckedLaws.{along-here, along-next, passed-more}
use Rattle.mp_vm.proofs.RuleFaults.{length-below, used_test-fits, used_tests-more}
use Rattle.mp_vm.proofs.rules.check_lines.Goals as goal

pub returns-then-not-branch-clause-lines : goal.returns-then-not-branch-clause-lines
returns-then-not-branch-clause-lines c = λ other. (
    let at = c.loop-line in
    let rules = c.args.rules.now in
    let done = map rule_line_view (take at.line-index rules) in
    let used = ap (λ l. length l) at.invariant.used ∙ length-below at.used in
    along-here (rule_faults c.args.count) rule_line_view rules at.line-index at.number
    (faults_along (rule_faults c.args.count) [] c.args.first (map rule_line_view rules)) at.invariant.faults
    c.line-item.result c.loop-line-test.true c.line-item.is (BadReference at.number)
    (c.in_ok-add_rule.ensures.right done used at.invariant.names at.number
    ∙ ap (λ b. fault_if (not b) (BadReference at.number)) c.if-not-branch.true)
    )

pub used_after-used-requires : goal.used_after-used-requires
used_after-used-requires c =
    let at = c.loop-line in
    let done = map rule_line_view (take at.line-index c.args.rules.now) in
    let x = c.line-item.result in
    let used = ap (λ l. length l) at.invariant.used ∙ length-below at.used in
    used_test-fits c.args.count done x.vars (rule_test x.test) at.used used
    (fine-rule c.args.count done at.number (rule_line_view x)
    (c.in_ok-add_rule.ensures.right done used at.invariant.names at.number
    ∙ ap (λ b. fault_if (not b) (BadReference at.number)) c.if-not-branch.false)).test

pub loop-line-preserved : goal.loop-line-preserved
loop-line-preserved c =
    let at = c.loop-line in
    let rules = c.args.rules.now in
    let done = map rule_line_view (take at.line-index rules) in
    let x = c.line-item.result in
    let all = faults_along (rule_faults c.args.count) [] c.args.first (map rule_line_view rules) in
    let used = ap (λ l. length l) at.invariant.used ∙ length-below at.used in
    let more = passed-more (rule_faults c.args.count) rule_line_view rules at.line-index at.number all
    at.invariant.faults x c.loop-line-test.true c.line-item.is in
    record {
      names = c.in_ok-add_rule.ensures.names c.if-not-branch.false
          ∙ ap (λ l. l ++ x.name ∷ []) at.invariant.names
          ∙ sym (map_push (λ (r : RuleLine). r.name) done (rule_line_view x))
          ∙ ap (map (λ (r : RuleLine). r.name)) (sym more);
      used = ap used_tests more ∙ used_tests-more done (rule_line_view x)
          ∙ ap (λ l. firsts_after nat_eq l (used_test (rule_test x.test))) at.invariant.used
          ∙ c.used_after-used.ensures;
      number = omega (arith, at.invariant.number);
      faults = along-next (rule_faults c.args.count) rule_line_view rules at.line-index at.number all
          at.invariant.faults x c.loop-line-test.true c.line-item.is
          (c.in_ok-add_rule.ensures.right done used at.invariant.names at.number
          ∙ ap (λ b. fault_if (not b) (BadReference at.number)) c.if-not-branch.false);
    }
