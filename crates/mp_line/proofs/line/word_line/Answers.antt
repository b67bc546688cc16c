use Rattle.std.proofs.Common.{◌≡◌, true, false, sym, subst, ◌∙◌}
use Rattle.mp_pattern.specs.CondView.{cond_tree}
use Rattle.mp_program.specs.RuleView.{rule_line_view}
use Rattle.mp_line.specs.declared.names.TheConstants.{MAX_KEPT}
use Rattle.mp_line.specs.Finds.{Finds}
use Rattle.mp_line.specs.LineTexts.{IsTestText, IsRuleText}
use Rattle.mp_line.proofs.LineLaws.{op-found, kind-line-found, test-found, rule-found, code-found, no-word-line}
use Rattle.mp_line.proofs.line.word_line.Goals as goal

pub returns-in-Some : goal.returns-in-Some
returns-in-Some c = λ n some small.
    rule-found c.args.sig.now c.args.format n some small c.args.text.now MAX_KEPT (rule_line_view c.in-Some.line)
    (subst (Finds rule_line_view (IsRuleText c.args.sig.now c.args.format MAX_KEPT c.args.text.now)) c.in-Some.is
    c.in_ok-line.ensures)

pub returns-in-Some-2 : goal.returns-in-Some-2
returns-in-Some-2 c = λ n some small.
    test-found c.args.sig.now c.args.format n some small c.args.text.now MAX_KEPT (cond_tree c.in-Some-2.cond)
    (subst (Finds cond_tree (IsTestText c.args.sig.now c.args.text.now)) c.in-Some-2.is c.in_ok-cond.ensures)

pub returns-then-is_declaration : goal.returns-then-is_declaration
returns-then-is_declaration c = λ n some small.
    let d = c.is_declaration.ensures.0 c.if-is_declaration.true in
    op-found c.args.sig.now c.args.format n some small c.args.text.now MAX_KEPT d.0 d.1

pub returns-then-is_declaration-2 : goal.returns-then-is_declaration-2
returns-then-is_declaration-2 c = λ n some small.
    let d = c.is_declaration-2.ensures.0 c.if-is_declaration-2.true in
    kind-line-found c.args.sig.now c.args.format n some small c.args.text.now MAX_KEPT d.0 d.1

pub returns-then-is_same : goal.returns-then-is_same
returns-then-is_same c = λ n some small.
    code-found c.args.sig.now c.args.format n some small c.args.text.now MAX_KEPT
    (c.is_same.ensures.0 c.if-is_same.true)

pub returns : goal.returns
returns c = λ n some small.
    let sig = c.args.sig.now in
    let text = c.args.text.now in
    no-word-line sig c.args.format n some small text MAX_KEPT c.requires.other
    (λ d. (let wrong : true ≡ false = sym (c.is_declaration.ensures.1 d) ∙ c.if-is_declaration.false in cc))
    (λ d. (let wrong : true ≡ false = sym (c.is_declaration-2.ensures.1 d) ∙ c.if-is_declaration-2.false in cc))
    (subst (Finds cond_tree (IsTestText sig text)) c.in_default-2.is c.in_ok-cond.ensures)
    (subst (Finds rule_line_view (IsRuleText sig c.args.format MAX_KEPT text)) c.in_default.is c.in_ok-line.ensures)
    (λ e. (let wrong : true ≡ false = sym (c.is_same.ensures.1 e) ∙ c.if-is_same.false in cc))
