use Rattle.std.proofs.Common.{◌∙◌, ap, map, refl, subst, sym, Bool}
use Rattle.std.proofs.KnownBytes.{Appends-nil}
use Rattle.std.specs.Prelude.{Err, Ok, Option}
use Rattle.mp_io.specs.Moments.{sunk}
use Rattle.mp_pattern.specs.Planned.{planned_rule}
use Rattle.mp_text.specs.File.{file_tree, subject_tree}
use Rattle.mp_matches.specs.Computed.{behind_token, file_matches}
use Rattle.mp_matches.specs.Left.{left_at_first, left_of}
use Rattle.mp_matches.specs.Listed.{misspelt}
use Rattle.mp_matches.specs.Printed.{PrintsBehind}
use Rattle.mp_matches.proofs.AnswerLaws.{behind-Err, behind-None, listed-unread, printed-behind, spelt-text}
use Rattle.mp_matches.proofs.list.list_behind.Goals as goal

pub returns-in-Err-Spelling : goal.returns-in-Err-Spelling
returns-in-Err-Spelling g c limit first = (
  listed-unread (file_tree c.args.file.now) limit c.as_bytes.result.now c.args.text.now c.in-Err-Spelling.field-0
      c.in-Err-Spelling.at c.requires.file c.as_bytes.ensures.value c.in-Err-Spelling.field-0-is
      c.in-Err-Spelling.ensures.fault ∙ ap misspelt (sym c.in-Err-Spelling.at-is),
  (Appends-nil (g.O.Sink.contents c.args.out.now), refl),
)

pub returns-in-Ok-None : goal.returns-in-Ok-None
returns-in-Ok-None g c limit first =
    let file = file_tree c.args.file.now in
    let rules = map planned_rule c.args.rules.now in
    let subjects = map subject_tree c.as_slice-subjects.result.now in
    let left = left_of c.args.left.now in
    let after = left_of c.resume_subjects.new.left in
    let out = sunk g.O.Sink c.args.out.now c.resume_subjects.new.out in
    let text = c.args.text.now in
    let bytes = c.as_bytes.result.now in
    let token = c.in-Ok.token in
    behind-None file.sig limit text out after (behind_token text (file_matches file))
    (spelt-text file limit rules subjects left after out c.requires.rules c.as_slice-subjects.ensures first bytes text
    token c.as_bytes.ensures.value c.in-Ok.ensures.token)
    (subst (λ (o : Option Bool).
    PrintsBehind file.sig (left_at_first limit) (behind_token text (file_matches file)) out after (Ok o))
    c.in-Ok-None.field-0-is
    (printed-behind file limit rules subjects left after out c.requires.rules c.as_slice-subjects.ensures first bytes
    text token c.as_bytes.ensures.value c.in-Ok.ensures.token (Ok c.in-Ok-None.field-0) c.in-Ok-None.ensures.prints))

pub returns : goal.returns
returns g c limit first =
    let file = file_tree c.args.file.now in
    let rules = map planned_rule c.args.rules.now in
    let subjects = map subject_tree c.as_slice-subjects.result.now in
    let left = left_of c.args.left.now in
    let after = left_of c.resume_subjects.new.left in
    let out = sunk g.O.Sink c.args.out.now c.resume_subjects.new.out in
    let text = c.args.text.now in
    behind-Err file.sig limit text out after (behind_token text (file_matches file)) c.in-Err.stop c.answer.result
    c.answer.ensures.lists (λ is. c.answer.ensures.memory (ap Err is))
    (printed-behind file limit rules subjects left after out c.requires.rules c.as_slice-subjects.ensures first
    c.as_bytes.result.now text c.in-Ok.token c.as_bytes.ensures.value c.in-Ok.ensures.token (Err c.in-Err.stop)
    c.in-Err.ensures.prints)
