use Rattle.std.proofs.Common.{◌≡◌, ◌∙◌, ℕ, List, [], ◌∷◌, map, sym, ap}
use Rattle.std.specs.Prelude.{Some, position, slice_get, flat_map}
use Rattle.std.specs.Str.{bytes_eq}
use Rattle.std.proofs.lemmas.Result.{err_from_is_err_and}
use Rattle.mp_parser.specs.View.{spot_of, change_tree}
use Rattle.mp_term.specs.declared.edit.Edit.{Edit}
use Rattle.mp_text.specs.declared.file.EditSet.{EditSet}
use Rattle.mp_build.specs.Build.{head_number}
use Rattle.mp_build.specs.Edits.{new_term_faults}
use Rattle.mp_text.specs.EditStatements.{subject_number}
use Rattle.mp_build.proofs.Fails.{fails-front, fails-behind, fails-along}
use Rattle.mp_build.proofs.Faultless.{nil-both}
use Rattle.mp_text.proofs.Draft.{draft_sig, draft_edit_count, draft-edit}
use Rattle.mp_text.proofs.EditLaws.{HasRoom, fails-unknown, faults-known}
use Rattle.mp_text.proofs.reader.add_edit.Goals as goal

pub returns-in_default : goal.returns-in_default
returns-in_default c = λ sig earlier d.
    let name = spot_of c.args.name in
    let cs = map change_tree c.args.changes.now in
    let room : HasRoom sig earlier name cs c.len.result c.is_large_edit.result = record {
      counted = c.len.ensures ∙ draft_edit_count sig earlier c.args.draft.now d;
      few = c.if-len-ge-MAX_EDIT_STATEMENTS.false;
      is_large = c.is_large_edit.ensures;
      small = c.if-is_large_edit.false;
    } in
    let found = c.index_of.ensures ∙ ap (position (bytes_eq c.args.name.text.now)) d.subjects in
    fails-unknown sig earlier name cs c.error_at-in_default.result c.len.result c.is_large_edit.result
    c.index_of.result room found c.in_default.is c.error_at-in_default.ensures

pub returns-in_err-edits : goal.returns-in_err-edits
returns-in_err-edits c = λ sig earlier d.
    let p = err_from_is_err_and c.from_residual.result c.from_residual.ensures.1 in
    let name = spot_of c.args.name in
    let cs = map change_tree c.args.changes.now in
    let room : HasRoom sig earlier name cs c.len.result c.is_large_edit.result = record {
      counted = c.len.ensures ∙ draft_edit_count sig earlier c.args.draft.now d;
      few = c.if-len-ge-MAX_EDIT_STATEMENTS.false;
      is_large = c.is_large_edit.ensures;
      small = c.if-is_large_edit.false;
    } in
    let found = c.index_of.ensures ∙ ap (position (bytes_eq c.args.name.text.now)) d.subjects in
    let known = faults-known sig earlier name cs c.len.result c.is_large_edit.result c.index_of.result c.in-Some.number
    room found c.in-Some.is in
    let e = c.in_err-edits.field-0.0 in
    rw (p.1, p.2)
    (fails-along e _ _ (sym known)
    (fails-front e (flat_map (new_term_faults sig) cs) _
    (rw (draft_sig sig earlier c.args.draft.now d) at c.in_err-edits.ensures)))

pub returns-in_err-check_edits_on : goal.returns-in_err-check_edits_on
returns-in_err-check_edits_on c = λ sig earlier d.
    let p = err_from_is_err_and c.from_residual-in_err-check_edits_on.result
    c.from_residual-in_err-check_edits_on.ensures.1 in
    let name = spot_of c.args.name in
    let cs = map change_tree c.args.changes.now in
    let room : HasRoom sig earlier name cs c.len.result c.is_large_edit.result = record {
      counted = c.len.ensures ∙ draft_edit_count sig earlier c.args.draft.now d;
      few = c.if-len-ge-MAX_EDIT_STATEMENTS.false;
      is_large = c.is_large_edit.ensures;
      small = c.if-is_large_edit.false;
    } in
    let found = c.index_of.ensures ∙ ap (position (bytes_eq c.args.name.text.now)) d.subjects in
    let known = faults-known sig earlier name cs c.len.result c.is_large_edit.result c.index_of.result c.in-Some.number
    room found c.in-Some.is in
    let e = c.in_err-check_edits_on.field-0.0 in
    let subject = sym c.get.ensures ∙ ap (λ f. slice_get f.subjects c.in-Some.number) d.file in
    let built = rw (draft_sig sig earlier c.args.draft.now d) at c.in_ok-edits.ensures in
    rw (p.1, p.2)
    (fails-along e _ _ (sym known)
    (fails-behind e (flat_map (new_term_faults sig) cs) _ built.0
    (rw (draft_sig sig earlier c.args.draft.now d, subject) at
    (c.in_err-check_edits_on.ensures c.in_ok-edits.ensures.1))))

pub returns : goal.returns
returns c = λ sig earlier d.
    let name = spot_of c.args.name in
    let cs = map change_tree c.args.changes.now in
    let room : HasRoom sig earlier name cs c.len.result c.is_large_edit.result = record {
      counted = c.len.ensures ∙ draft_edit_count sig earlier c.args.draft.now d;
      few = c.if-len-ge-MAX_EDIT_STATEMENTS.false;
      is_large = c.is_large_edit.ensures;
      small = c.if-is_large_edit.false;
    } in
    let found = c.index_of.ensures ∙ ap (position (bytes_eq c.args.name.text.now)) d.subjects in
    let known = faults-known sig earlier name cs c.len.result c.is_large_edit.result c.index_of.result c.in-Some.number
    room found c.in-Some.is in
    let subject = sym c.get.ensures ∙ ap (λ f. slice_get f.subjects c.in-Some.number) d.file in
    let built = rw (draft_sig sig earlier c.args.draft.now d) at c.in_ok-edits.ensures in
    let made = rw (draft_sig sig earlier c.args.draft.now d, subject) at
    (c.in_ok-check_edits_on.ensures c.in_ok-edits.ensures.1) in
    let number : Some c.in-Some.number ≡ subject_number earlier name = sym c.in-Some.is ∙ found in
    let set : ℕ → List Edit → List EditSet = λ n es. record { subject = n; edits = es } ∷ [] in (
      known ∙ nil-both (flat_map (new_term_faults sig) cs) _ built.0 made.0,
      draft-edit sig earlier c.args.draft.now d name cs _ _ c.in_ok-push.ensures.ok
          (λ j. set (head_number (number j)) (built.1 j)),
    )
