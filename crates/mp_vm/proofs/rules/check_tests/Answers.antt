use Rattle.std.proofs.Common.{◌++◌, ◌∷◌, [], map, take, sym, ap, ◌∙◌, arith}
use Rattle.std.specs.Prelude.{not}
use Rattle.std.proofs.lemmas.List.{map_push}
use Rattle.mp_pattern.specs.CondView.{cond_tree}
use Rattle.mp_print.specs.PrintedCond.{cond_text}
use Rattle.mp_program.specs.declared.fault.ProgramError.TheVariants.{BadReference}
use Rattle.mp_program.specs.FormFaults.{faults_along, test_faults, fault_if}
use Rattle.mp_vm.proofs.CheckedLaws.{along-here, along-next, passed-more}
use Rattle.mp_vm.proofs.RuleFaults.{test_faults-text}
use Rattle.mp_vm.proofs.rules.check_tests.Goals as goal

pub returns-then-not-branch : goal.returns-then-not-branch
returns-then-not-branch c = λ other. (
    let sig = c.args.sig.now in
    let tests = c.args.tests.now in
    let at = c.loop-test in
    let x = c.test-item.result in
    let done = map cond_tree (take at.test-index tests) in
    let text = c.content.ensures ∙ c.in_ok-text.ensures in
    along-here (test_faults sig) cond_tree tests at.test-index at.line
    (faults_along (test_faults sig) [] c.args.first (map cond_tree tests)) at.invariant.faults x c.loop-test-test.true
    c.test-item.is (BadReference at.line)
    (test_faults-text sig done (cond_tree x) at.line at.texts c.content.result.now c.in_ok-add_new.field-0
    at.invariant.texts text c.in_ok-add_new.ensures.new
    ∙ ap (λ b. fault_if (not b) (BadReference at.line)) c.if-not-branch.true)
    )

pub loop-test-preserved : goal.loop-test-preserved
loop-test-preserved c =
    let sig = c.args.sig.now in
    let tests = c.args.tests.now in
    let at = c.loop-test in
    let x = c.test-item.result in
    let done = map cond_tree (take at.test-index tests) in
    let all = faults_along (test_faults sig) [] c.args.first (map cond_tree tests) in
    let text = c.content.ensures ∙ c.in_ok-text.ensures in
    record {
      texts = c.in_ok-add_new.ensures.texts c.if-not-branch.false
          ∙ (λ i. at.invariant.texts i ++ text i ∷ [])
          ∙ sym (map_push (cond_text sig) done (cond_tree x))
          ∙ ap (map (cond_text sig)) (sym (passed-more (test_faults sig) cond_tree tests at.test-index at.line all
          at.invariant.faults x c.loop-test-test.true c.test-item.is));
      line = omega (arith, at.invariant.line);
      faults = along-next (test_faults sig) cond_tree tests at.test-index at.line all at.invariant.faults x
          c.loop-test-test.true c.test-item.is
          (test_faults-text sig done (cond_tree x) at.line at.texts c.content.result.now c.in_ok-add_new.field-0
          at.invariant.texts text c.in_ok-add_new.ensures.new
          ∙ ap (λ b. fault_if (not b) (BadReference at.line)) c.if-not-branch.false);
    }
