use Rattle.std.proofs.Common.{subst}
use Rattle.std.specs.Prelude.{ℕ, List}
use Rattle.mp_program.specs.RuleView.{rule_test}
use Rattle.mp_line.specs.declared.names.TheConstants.{MAX_KEPT}
use Rattle.mp_line.specs.Finds.{Finds}
use Rattle.mp_line.specs.LineTexts.{IsNameText, AreNamesText}
use Rattle.mp_line.proofs.RuleLaws.{head-found, no-name, no-names}
use Rattle.mp_line.proofs.rule.rule_with.Goals as goal

pub returns-in_default : goal.returns-in_default
returns-in_default c =
    let parts = c.first_word.result in
    no-name MAX_KEPT c.args.text.now parts.0.now parts.1.now (rule_test c.args.test) c.first_word.ensures
    (subst (Finds (λ (n : List ℕ). n) (IsNameText parts.0.now)) c.in_default.is c.in_ok-name.ensures)

pub returns-in-Some-2 : goal.returns-in-Some-2
returns-in-Some-2 c =
    let parts = c.first_word.result in
    head-found MAX_KEPT c.args.text.now parts.0.now parts.1.now (rule_test c.args.test) c.in-Some.name c.in-Some-2.vars
    c.first_word.ensures
    (subst (Finds (λ (n : List ℕ). n) (IsNameText parts.0.now)) c.in-Some.is c.in_ok-name.ensures)
    (subst (Finds (λ (ns : List (List ℕ)). ns)
    (AreNamesText MAX_KEPT parts.1.now)) c.in-Some-2.is c.in_ok-vars.ensures)

pub returns-in-None : goal.returns-in-None
returns-in-None c =
    let parts = c.first_word.result in
    no-names MAX_KEPT c.args.text.now parts.0.now parts.1.now (rule_test c.args.test) c.first_word.ensures
    (subst (Finds (λ (ns : List (List ℕ)). ns) (AreNamesText MAX_KEPT parts.1.now)) c.in-None.is c.in_ok-vars.ensures)
