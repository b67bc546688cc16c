use Rattle.std.proofs.Common.{◌≡◌, ◌<◌, ◌-◌, ◌^◌, ◌++◌, ◌∷◌, [], length, true, false, ap, sym, ◌∙◌, subst, arith}
use Rattle.std.proofs.lemmas.Result.{err_from_is_err_and}
use Rattle.mp_line.specs.declared.names.TheConstants.{MAX_KEPT}
use Rattle.std.specs.Prelude.{nat_eq}
use Rattle.mp_io.specs.Devices.{Text}
use Rattle.mp_program.specs.FormText.{lines_of, lines_text}
use Rattle.mp_vm.specs.FirstLine.{IsFirstLine}
use Rattle.mp_vm.proofs.FormReading.{empty-text, first-empty, first-fault, reading-start, next-few, reading-next}
use Rattle.mp_vm.proofs.FormReading.{reading-bad, reading-open, reading-unended, reading-whole}
use Rattle.mp_vm.proofs.reader.read_form.Goals as goal
use Rattle.mp_vm.proofs.reader.read_form.Goals.{else-is_whole-via-then-is_whole+else-is_empty}
use Rattle.mp_vm.proofs.reader.read_form.Goals.{else-is_whole-via-else-is_whole}

pub returns-in_default-clause-fault : goal.returns-in_default-clause-fault
returns-in_default-clause-fault c =
    λ _. first-empty c.args.sig.now c.args.bytes.now
    (ap lines_of (sym c.new-lines.ensures) ∙ c.in_default.ensures.first)

pub returns-in_err-format-clause-fault : goal.returns-in_err-format-clause-fault
returns-in_err-format-clause-fault c =
    let p = err_from_is_err_and c.from_residual.result c.from_residual.ensures.1 in
    let line = subst (λ b. IsFirstLine b c.in-Some.first.now c.next.new.self) c.new-lines.ensures
    c.in-Some.ensures.first in
    rw (p.1, p.2) (λ _. first-fault c.args.sig.now c.args.bytes.now c.in-Some.first.now c.next.new.self line
    c.in_err-format.field-0.0 c.in_err-format.ensures)

pub loop-text-init : goal.loop-text-init
loop-text-init c =
    let line = subst (λ b. IsFirstLine b c.in-Some.first.now c.next.new.self) c.new-lines.ensures
    c.in-Some.ensures.first in
    reading-start c.args.sig.now MAX_KEPT c.args.bytes.now c.in-Some.first.now c.next.new.self c.in_ok-format.format
    c.in_ok-draft.draft line c.in_ok-format.ensures c.in_ok-draft.ensures

pub returns-then-not-branch-clause-fault : goal.returns-then-not-branch-clause-fault
returns-then-not-branch-clause-fault c =
    let l = c.loop-text in
    let h = l.invariant in
    let text = c.in-Some-next.text.now in
    let first = c.in-Some-next.ensures.first in
    let behind = c.next-in-loop-text.new.self in
    let within = next-few c.args.sig.now MAX_KEPT c.args.bytes.now l.draft l.lines text behind l.line h first in
    let few : length (lines_text (h.read ++ text ∷ [])) < 2 ^ 32 - 1 = omega (arith, within, c.requires.few) in
    λ _. reading-bad c.args.sig.now MAX_KEPT c.args.bytes.now l.draft l.lines text behind l.line h first
    (c.in_ok-take.ensures.refused h.read h.some h.has few c.if-not-branch.true)

pub loop-text-preserved : goal.loop-text-preserved
loop-text-preserved c =
    let l = c.loop-text in
    let h = l.invariant in
    let text = c.in-Some-next.text.now in
    let first = c.in-Some-next.ensures.first in
    let behind = c.next-in-loop-text.new.self in
    let within = next-few c.args.sig.now MAX_KEPT c.args.bytes.now l.draft l.lines text behind l.line h first in
    let few : length (lines_text (h.read ++ text ∷ [])) < 2 ^ 32 - 1 = omega (arith, within, c.requires.few) in
    reading-next c.args.sig.now MAX_KEPT c.args.bytes.now l.draft l.lines text behind l.line h first c.take.new.self
    c.saturating_add-line.result c.requires.few (c.in_ok-take.ensures.taken h.read h.some h.has few
    c.if-not-branch.false)
    c.saturating_add-line.ensures

pub returns-then-is_empty-clause-form : goal.returns-then-is_empty-clause-form
returns-then-is_empty-clause-form c =
    let l = c.loop-text in
    let stays = c.next-in-loop-text.ensures.none c.in_default-next.is in
    let empty = empty-text c.rest.result.now (sym c.is_empty.ensures ∙ c.if-is_empty.true) in
    reading-whole c.args.sig.now MAX_KEPT c.args.bytes.now l.draft l.lines l.line l.invariant
    c.in_default-next.ensures.first (c.is_whole.ensures.0 c.if-is_whole.true) (sym stays ∙ sym c.rest.ensures ∙ empty)

pub returns-clause-fault : goal.returns-clause-fault
returns-clause-fault c =
    let l = c.loop-text in
    let stays = c.next-in-loop-text.ensures.none c.in_default-next.is in
    λ _. elim c.else-is_whole.branch [
      | else-is_whole-via-then-is_whole+else-is_empty w ↦
          reading-unended c.args.sig.now MAX_KEPT c.args.bytes.now l.draft l.lines l.line l.invariant
          c.in_default-next.ensures.first (λ z.
          let same = w.rest.ensures ∙ stays ∙ z in
          let wrong : true ≡ false = sym (w.is_empty.ensures ∙ ap (λ (t : Text). nat_eq (length t) 0) same)
          ∙ w.if-is_empty.false in cc)
      | else-is_whole-via-else-is_whole w ↦
          reading-open c.args.sig.now MAX_KEPT c.args.bytes.now l.draft l.lines l.line l.invariant
          c.in_default-next.ensures.first
          (λ z. let wrong : true ≡ false = sym (c.is_whole.ensures.1 z) ∙ w.if-is_whole.false in cc)
    ]
