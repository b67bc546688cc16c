use Rattle.std.proofs.Common.{ℕ, ◌+◌, ◌++◌, [], Some, sym, ap, subst, ◌∙◌, arith}
use Rattle.std.specs.Prelude.{Err}
use Rattle.mp_line.specs.declared.names.TheConstants.{MAX_KEPT}
use Rattle.mp_program.specs.declared.fault.ProgramError.TheVariants.{BadReference}
use Rattle.mp_program.specs.FormFaults.{faults_along, rule_faults, unused_faults, used_tests}
use Rattle.mp_vm.specs.Checked.{Checks}
use Rattle.mp_vm.proofs.CheckedLaws.{first_fault-behind, checks-passed}
use Rattle.mp_vm.proofs.RuleFaults.{kept-used, along-kept, unused-none, unused-first}
use Rattle.mp_vm.proofs.rules.check_rules.Goals as goal

pub returns-in_err-used : goal.returns-in_err-used
returns-in_err-used c = λ rs ts kept long. (
    let n = c.args.first + c.args.count in
    let same = ap (faults_along (rule_faults c.args.count) [] n) kept
    ∙ along-kept c.args.count MAX_KEPT (omega arith) [] n rs in
    checks-passed ℕ (faults_along (rule_faults c.args.count) [] n rs)
    (faults_along (unused_faults rs) [] c.args.first ts) c.in_err-used.field-0.0 c.from_residual.result
    c.from_residual.ensures.1
    (subst (λ l. Checks {T = ℕ} l (Err c.in_err-used.field-0.0)) same c.in_err-used.ensures.lines)
    )

pub returns-then-used-count : goal.returns-then-used-count
returns-then-used-count c = λ rs ts kept long other. (
    let n = c.args.first + c.args.count in
    let same = ap (faults_along (rule_faults c.args.count) [] n) kept
    ∙ along-kept c.args.count MAX_KEPT (omega arith) [] n rs in
    let used = sym (ap used_tests kept ∙ kept-used c.args.count MAX_KEPT rs) ∙ c.in_ok-used.ensures.used in
    first_fault-behind (faults_along (rule_faults c.args.count) [] n rs)
    (faults_along (unused_faults rs) [] c.args.first ts) (sym same ∙ c.in_ok-used.ensures.lines)
    ∙ unused-first rs c.in_ok-used.used used [] c.args.first ts (omega arith)
    (omega (arith, long, c.if-used-count.true))
    ∙ ap (λ m. Some (BadReference m)) (omega arith)
    )

pub returns : goal.returns
returns c = λ rs ts kept long. (
    let n = c.args.first + c.args.count in
    let same = ap (faults_along (rule_faults c.args.count) [] n) kept
    ∙ along-kept c.args.count MAX_KEPT (omega arith) [] n rs in
    let used = sym (ap used_tests kept ∙ kept-used c.args.count MAX_KEPT rs) ∙ c.in_ok-used.ensures.used in
    let lines = sym same ∙ c.in_ok-used.ensures.lines in
    let none = unused-none rs c.in_ok-used.used used [] c.args.first ts
    (omega (arith, long, c.if-used-count.false)) in
    λ i. lines i ++ none i
    )
