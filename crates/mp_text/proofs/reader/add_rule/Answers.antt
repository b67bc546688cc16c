use Rattle.std.proofs.Common.{◌∙◌}
use Rattle.std.proofs.lemmas.Result.{err_from_is_err_and}
use Rattle.mp_parser.specs.View.{spot_of, expr_tree, arrow_tree, if_tree}
use Rattle.mp_build.proofs.Fails.{fails-front, fails-behind, none-append}
use Rattle.mp_text.proofs.Draft.{draft_sig, draft-rule}
use Rattle.mp_text.proofs.reader.add_rule.Goals as goal

pub returns-in_err-add_statement_name : goal.returns-in_err-add_statement_name
returns-in_err-add_statement_name c = λ sig earlier d.
    let p = err_from_is_err_and c.from_residual-in_err-add_statement_name.result
    c.from_residual-in_err-add_statement_name.ensures.1 in
    rw (p.1, p.2) (fails-front c.in_err-add_statement_name.field-0.0 _ _
    (rw (d.rules, c.in_ok-is_large.ensures) at c.in_err-add_statement_name.ensures))

pub returns-in_err-rule : goal.returns-in_err-rule
returns-in_err-rule c = λ sig earlier d.
    let p = err_from_is_err_and c.from_residual-in_err-rule.result c.from_residual-in_err-rule.ensures.1 in
    let none = c.in_ok-add_statement_name.ensures.0 in
    rw (p.1, p.2) (fails-behind c.in_err-rule.field-0.0 _ _ (rw (d.rules, c.in_ok-is_large.ensures) at none)
    (rw (draft_sig sig earlier c.args.draft.now d) at c.in_err-rule.ensures))

pub returns : goal.returns
returns c = λ sig earlier d.
    let named = c.in_ok-add_statement_name.ensures in
    let built = rw (draft_sig sig earlier c.args.draft.now d) at c.in_ok-rule.ensures in (
      none-append _ _ (rw (d.rules, c.in_ok-is_large.ensures) at named.0) ∙ built.0,
      draft-rule sig earlier c.args.draft.now d (spot_of c.args.name) (expr_tree c.args.pattern.now)
          (arrow_tree c.args.template.now) (if_tree c.args.condition.now) _ _ _ c.in_ok-push.ensures.ok built.1
          named.1,
    )
