use Rattle.std.proofs.Common.{refl, ◌∙◌}
use Rattle.std.proofs.lemmas.Result.{err_from_is_err_and}
use Rattle.mp_parser.specs.View.{spot_of, expr_tree}
use Rattle.mp_pattern.specs.declared.limits.TheConstants.{MAX_SUBJECTS}
use Rattle.mp_build.proofs.SoundLaws.{named-by}
use Rattle.mp_build.proofs.Fails.{fails-front, fails-behind, none-append}
use Rattle.mp_text.proofs.Draft.{draft_sig, draft-subject}
use Rattle.mp_text.proofs.reader.add_subject.Goals as goal

pub returns-in_err-add_statement_name : goal.returns-in_err-add_statement_name
returns-in_err-add_statement_name c = λ sig earlier d.
    let p = err_from_is_err_and c.from_residual.result c.from_residual.ensures.1 in
    rw (p.1, p.2) (fails-front c.in_err-add_statement_name.field-0.0 _ _
    (rw (d.subjects, c.is_large_term-is_large.ensures) at c.in_err-add_statement_name.ensures))

pub returns-in_err-term : goal.returns-in_err-term
returns-in_err-term c = λ sig earlier d.
    let p = err_from_is_err_and c.from_residual-in_err-term.result c.from_residual-in_err-term.ensures.1 in
    let none = c.in_ok-add_statement_name.ensures.0 in
    rw (p.1, p.2) (fails-behind c.in_err-term.field-0.0 _ _
    (rw (d.subjects, c.is_large_term-is_large.ensures) at none)
    (rw (draft_sig sig earlier c.args.draft.now d) at c.in_err-term.ensures))

pub returns : goal.returns
returns c = λ sig earlier d.
    let named = c.in_ok-add_statement_name.ensures in
    let built = rw (draft_sig sig earlier c.args.draft.now d) at c.in_ok-term.ensures in (
      none-append _ _ (rw (d.subjects, c.is_large_term-is_large.ensures) at named.0) ∙ built.0,
      draft-subject sig earlier c.args.draft.now d (spot_of c.args.name) (expr_tree c.args.term.now) _ _ _ _
          c.in_ok-push_subject.ensures.1 refl built.1 named.1
          (named-by MAX_SUBJECTS c.args.draft.now.subject_names c.is_large_term-is_large.result (spot_of c.args.name)
          named.0).few,
    )
