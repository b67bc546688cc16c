use Rattle.std.proofs.Common.{length, ap, sym, subst, arith}
use Rattle.std.specs.Prelude.{codes, IfOk}
use Rattle.std.proofs.lemmas.List.{length-append}
use Rattle.mp_program.specs.RuleView.{rule_line_view}
use Rattle.mp_program.specs.declared.format.Format.TheVariants.{One, Two}
use Rattle.mp_line.specs.declared.names.TheConstants.{MAX_KEPT}
use Rattle.mp_line.specs.Finds.{Finds}
use Rattle.mp_line.specs.LineTexts.{IsRuleBody, IsRuleText}
use Rattle.mp_line.proofs.FindsLaws.{IfOk-also}
use Rattle.mp_line.proofs.RuleLaws.{rule-through, no-rule}
use Rattle.mp_line.proofs.rule.read_rule.Goals as goal

pub spelled_rule-requires : goal.spelled_rule-requires
spelled_rule-requires c =
    omega (arith, ap length c.in-Some.ensures.is, length-append c.in-Some.text.now (codes ";"))

pub returns-in_default : goal.returns-in_default
returns-in_default c = no-rule c.args.sig.now c.args.format MAX_KEPT c.args.line.now c.in_default.ensures

pub returns-in-One : goal.returns-in-One
returns-in-One c =
    let sig = c.args.sig.now in
    let line = c.args.line.now in
    let text = c.in-Some.text.now in
    subst (λ f. IfOk c.spelled_rule.result (λ o. Finds rule_line_view (IsRuleText sig f MAX_KEPT line) o))
    (sym c.in-One.is)
    (IfOk-also c.spelled_rule.result (λ o. Finds rule_line_view (IsRuleBody sig One MAX_KEPT text) o)
    (λ o. Finds rule_line_view (IsRuleText sig One MAX_KEPT line) o)
    (λ o h. rule-through sig One MAX_KEPT line text rule_line_view o c.in-Some.ensures.is h) c.spelled_rule.ensures)

pub returns-in-Two : goal.returns-in-Two
returns-in-Two c =
    let sig = c.args.sig.now in
    let line = c.args.line.now in
    let text = c.in-Some.text.now in
    subst (λ f. IfOk c.numbered_rule.result (λ o. Finds rule_line_view (IsRuleText sig f MAX_KEPT line) o))
    (sym c.in-Two.is)
    (IfOk-also c.numbered_rule.result (λ o. Finds rule_line_view (IsRuleBody sig Two MAX_KEPT text) o)
    (λ o. Finds rule_line_view (IsRuleText sig Two MAX_KEPT line) o)
    (λ o h. rule-through sig Two MAX_KEPT line text rule_line_view o c.in-Some.ensures.is h)
    (c.numbered_rule.ensures sig))
