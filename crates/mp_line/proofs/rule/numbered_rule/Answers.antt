use Rattle.mp_program.specs.Form.{untested, tested}
use Rattle.mp_program.specs.RuleView.{rule_line_view}
use Rattle.mp_program.specs.declared.format.Format.TheVariants.{Two}
use Rattle.mp_line.specs.declared.names.TheConstants.{MAX_KEPT}
use Rattle.mp_line.specs.Finds.{Finds}
use Rattle.mp_line.specs.LineTexts.{IsHeadText, IsRuleBody}
use Rattle.mp_line.proofs.FindsLaws.{IfOk-also}
use Rattle.mp_line.proofs.RuleLaws.{untested-through, tested-through, no-number}
use Rattle.mp_line.proofs.rule.numbered_rule.Goals as goal

pub returns-in_default : goal.returns-in_default
returns-in_default c = λ sig.
    IfOk-also c.rule_with.result (λ o. Finds rule_line_view (IsHeadText MAX_KEPT c.args.text.now untested) o)
    (λ o. Finds rule_line_view (IsRuleBody sig Two MAX_KEPT c.args.text.now) o)
    (λ o h. untested-through sig MAX_KEPT c.args.text.now rule_line_view o c.in_default.ensures h)
    c.rule_with.ensures

pub returns-in-Some-split_number : goal.returns-in-Some-split_number
returns-in-Some-split_number c = λ sig.
    let front = c.in-Some-split_number.front.now in
    let number = c.in-Some-split_number.test in
    IfOk-also c.rule_with-in-Some-split_number.result
    (λ o. Finds rule_line_view (IsHeadText MAX_KEPT front (tested number)) o)
    (λ o. Finds rule_line_view (IsRuleBody sig Two MAX_KEPT c.args.text.now) o)
    (λ o h. tested-through sig MAX_KEPT c.args.text.now c.in-Some.tested.now c.in-Some.ensures.is rule_line_view o front
    number c.in-Some-split_number.ensures h) c.rule_with-in-Some-split_number.ensures

pub returns-in-None : goal.returns-in-None
returns-in-None c = λ sig.
    no-number sig MAX_KEPT c.args.text.now c.in-Some.tested.now c.in-Some.ensures.is c.in-None.ensures
