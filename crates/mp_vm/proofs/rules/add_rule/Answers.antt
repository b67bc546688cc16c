use Rattle.std.proofs.Common.{◌≡◌, ◌≤◌, ℕ, false, length, map, sym, ap, ◌∙◌, arith}
use Rattle.std.specs.Prelude.{not, bytes_eq}
use Rattle.std.specs.List.{list_any}
use Rattle.std.proofs.lemmas.Result.{IfOk-weaker}
use Rattle.mp_pattern.specs.declared.limits.TheConstants.{MAX_VARIABLES}
use Rattle.mp_program.specs.declared.fault.ProgramError.TheVariants.{BadReference}
use Rattle.mp_program.specs.FormFaults.{rule_faults, fault_if, is_bad_test}
use Rattle.mp_program.specs.RuleView.{rule_test, rule_line_view}
use Rattle.mp_vm.proofs.RuleFaults.{rule_faults-name}
use Rattle.mp_vm.proofs.rules.add_rule.Goals as goal

pub returns-clause-right : goal.returns-clause-right
returns-clause-right c = λ before used names. (
    let line = c.args.line.now in
    let distinct = sym c.are_distinct.ensures ∙ c.if-not-are_distinct.false in
    let few : length line.vars ≤ MAX_VARIABLES = omega (arith, c.if-len-gt-MAX_VARIABLES.false, c.len.ensures) in
    let good : is_bad_test c.args.count before line.vars (rule_test line.test) ≡ false =
    sym (c.in_ok-is_right_test.ensures before used) ∙ ap not c.if-not-branch.false in
    IfOk-weaker c.add_name.result
    (λ b. b ≡ not (list_any (bytes_eq c.bytes.result.now) (map (λ k. k.now) c.args.names.now.keys)))
    (λ b. (n : ℕ) → rule_faults c.args.count before n (rule_line_view line) ≡ fault_if (not b) (BadReference n))
    (λ b new n. rule_faults-name c.args.count before n (rule_line_view line) distinct few good
    (map (λ k. k.now) c.args.names.now.keys) c.bytes.result.now b names c.bytes.ensures.bytes new)
    c.add_name.ensures.new
    )
