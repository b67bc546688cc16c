use Rattle.std.proofs.Common.{sym, ◌∙◌}
use Rattle.std.proofs.lemmas.Result.{err_from_is_err_and}
use Rattle.mp_parser.specs.View.{spot_of, arrow_tree, if_tree}
use Rattle.mp_build.proofs.Fails.{fails-front, fails-behind, none-append}
use Rattle.mp_text.proofs.Draft.{draft_sig, draft-rule}
use Rattle.mp_text.proofs.RuleReaderLaws.{is_large_rule-whole}
use Rattle.mp_text.proofs.rule_reader.add_built_rule.Goals as goal

pub returns-in_err-add_statement_name : goal.returns-in_err-add_statement_name
returns-in_err-add_statement_name c = λ sig earlier e d whole.
    let p = err_from_is_err_and c.from_residual.result c.from_residual.ensures.1 in
    let large = c.has_large_result-is_large.ensures
    ∙ sym (is_large_rule-whole sig e _ _ whole (arrow_tree c.args.template.now) (if_tree c.args.condition.now)) in
    rw (p.1, p.2) (fails-front c.in_err-add_statement_name.field-0.0 _ _
    (rw (d.rules, large) at c.in_err-add_statement_name.ensures))

pub returns-in_err-rule : goal.returns-in_err-rule
returns-in_err-rule c = λ sig earlier e d whole.
    let p = err_from_is_err_and c.from_residual-in_err-rule.result c.from_residual-in_err-rule.ensures.1 in
    let large = c.has_large_result-is_large.ensures
    ∙ sym (is_large_rule-whole sig e _ _ whole (arrow_tree c.args.template.now) (if_tree c.args.condition.now)) in
    let none = c.in_ok-add_statement_name.ensures.0 in
    let fails = rw (draft_sig sig earlier c.args.draft.now d) at c.in_err-rule.ensures in
    rw (p.1, p.2) (fails-behind c.in_err-rule.field-0.0 _ _ (rw (d.rules, large) at none) (fails e whole))

pub returns : goal.returns
returns c = λ sig earlier e d whole.
    let x = arrow_tree c.args.template.now in
    let cond = if_tree c.args.condition.now in
    let large = c.has_large_result-is_large.ensures ∙ sym (is_large_rule-whole sig e _ _ whole x cond) in
    let named = c.in_ok-add_statement_name.ensures in
    let gives = rw (draft_sig sig earlier c.args.draft.now d) at c.in_ok-rule.ensures in
    let built = gives e whole in (
      none-append _ _ (rw (d.rules, large) at named.0) ∙ built.0,
      draft-rule sig earlier c.args.draft.now d (spot_of c.args.name) e x cond _ _ _ c.in_ok-push.ensures.ok built.1
          named.1,
    )
