use Rattle.std.proofs.Common.{◌≤◌, ap, subst, ◌∙◌, arith}
use Rattle.std.specs.Prelude.{nat_eq}
use Rattle.std.specs.List.{AllByRecursion}
use Rattle.mp_pattern.specs.Firsts.{firsts_after}
use Rattle.mp_program.specs.FormFaults.{used_test}
use Rattle.mp_program.specs.RuleView.{rule_test}
use Rattle.mp_vm.specs.Checked.{numbers_below}
use Rattle.mp_vm.proofs.RuleFaults.{used-next, used-again}
use Rattle.mp_vm.proofs.rules.used_after.Goals as goal

pub returns-in-Tested : goal.returns-in-Tested
returns-in-Tested c =
    ap (λ t. firsts_after nat_eq (numbers_below c.args.used) (used_test (rule_test t))) c.in-Tested.is
    ∙ used-next c.args.used c.in-Tested.number c.if-number-used.true

pub returns-in_default : goal.returns-in_default
returns-in_default c =
    let fits = subst (λ t. AllByRecursion (λ n. n ≤ c.args.used) (used_test (rule_test t))) c.in-Tested.is c.requires in
    ap (λ t. firsts_after nat_eq (numbers_below c.args.used) (used_test (rule_test t))) c.in-Tested.is
    ∙ used-again c.args.used c.in-Tested.number (omega (arith, fits.0, c.if-number-used.false))
