use Rattle.std.proofs.Common.{refl, ap, ◌∙◌}
use Rattle.std.proofs.lemmas.Result.{err_from_is_err_and}
use Rattle.mp_term.specs.Normal.{normal}
use Rattle.mp_parser.specs.View.{spot_of}
use Rattle.mp_pattern.specs.declared.limits.TheConstants.{MAX_SUBJECTS}
use Rattle.mp_build.proofs.SoundLaws.{named-by, well_formed-term_of}
use Rattle.mp_text.proofs.Draft.{draft_sig, draft-subject}
use Rattle.mp_text.proofs.subject.add_term.Goals as goal

pub returns-in_err-add_statement_name : goal.returns-in_err-add_statement_name
returns-in_err-add_statement_name c = λ sig earlier e d same.
    let p = err_from_is_err_and c.from_residual.result c.from_residual.ensures.1 in
    rw (p.1, p.2) (rw d.subjects at c.in_err-add_statement_name.ensures)

pub normal_built-requires : goal.normal_built-requires
normal_built-requires c = rw c.requires.2
    (well_formed-term_of c.args.draft.now.file.sig c.requires.0 c.requires.1)

pub returns : goal.returns
returns c = λ sig earlier e d same.
    let named = c.in_ok-add_statement_name.ensures in
    let built = rw (draft_sig sig earlier c.args.draft.now d) at c.in_ok-term.ensures.1 in (
      rw d.subjects at named.0,
      draft-subject sig earlier c.args.draft.now d (spot_of c.args.name) e _ _ _ _ c.in_ok-push_subject.ensures.1
          refl (built ∙ ap (normal sig) same) named.1
          (named-by MAX_SUBJECTS c.args.draft.now.subject_names _ (spot_of c.args.name) named.0).few,
    )
