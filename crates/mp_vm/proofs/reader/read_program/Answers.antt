use Rattle.std.proofs.Common.{arith}
use Rattle.mp_line.specs.declared.names.TheConstants.{MAX_KEPT}
use Rattle.mp_vm.proofs.AnswerLaws.{answer-found, answer-fault, answer-only, answer-only_fault, answer-formless}
use Rattle.mp_vm.proofs.AnswerLaws.{answer-lines, answer-made, whole-rules}
use Rattle.mp_vm.proofs.ProgramReading.{form-few}
use Rattle.mp_vm.proofs.reader.read_program.Goals as goal

pub returns-in_err-draft-clause-fault : goal.returns-in_err-draft-clause-fault
returns-in_err-draft-clause-fault c =
    let answer = answer-formless c.args.sig.now c.args.bytes.now c.from_residual.result c.in_err-draft.field-0.0
    c.from_residual.ensures.1 c.in_err-draft.ensures.fault in
    answer-fault c.args.sig.now c.args.bytes.now c.from_residual.result answer

pub returns-in_err-draft-clause-only_fault : goal.returns-in_err-draft-clause-only_fault
returns-in_err-draft-clause-only_fault c =
    let answer = answer-formless c.args.sig.now c.args.bytes.now c.from_residual.result c.in_err-draft.field-0.0
    c.from_residual.ensures.1 c.in_err-draft.ensures.fault in
    answer-only_fault c.args.sig.now c.args.bytes.now c.from_residual.result answer

pub returns-in_err-check_lines-clause-only : goal.returns-in_err-check_lines-clause-only
returns-in_err-check_lines-clause-only c =
    let read = c.in_ok-draft.ensures.form in
    let answer = answer-lines c.args.sig.now c.args.bytes.now read.form read.is_form
    c.from_residual-in_err-check_lines.result c.in_err-check_lines.field-0.0
    c.from_residual-in_err-check_lines.ensures.1 c.in_err-check_lines.ensures in
    answer-only c.args.sig.now c.args.bytes.now c.from_residual-in_err-check_lines.result answer

pub returns-in_err-check_lines-clause-fault : goal.returns-in_err-check_lines-clause-fault
returns-in_err-check_lines-clause-fault c =
    let read = c.in_ok-draft.ensures.form in
    let answer = answer-lines c.args.sig.now c.args.bytes.now read.form read.is_form
    c.from_residual-in_err-check_lines.result c.in_err-check_lines.field-0.0
    c.from_residual-in_err-check_lines.ensures.1 c.in_err-check_lines.ensures in
    answer-fault c.args.sig.now c.args.bytes.now c.from_residual-in_err-check_lines.result answer

pub returns-in_err-check_lines-clause-only_fault : goal.returns-in_err-check_lines-clause-only_fault
returns-in_err-check_lines-clause-only_fault c =
    let read = c.in_ok-draft.ensures.form in
    let answer = answer-lines c.args.sig.now c.args.bytes.now read.form read.is_form
    c.from_residual-in_err-check_lines.result c.in_err-check_lines.field-0.0
    c.from_residual-in_err-check_lines.ensures.1 c.in_err-check_lines.ensures in
    answer-only_fault c.args.sig.now c.args.bytes.now c.from_residual-in_err-check_lines.result answer

pub program_of-requires : goal.program_of-requires
program_of-requires c =
    let read = c.in_ok-draft.ensures.form in
    let few = form-few c.args.sig.now MAX_KEPT c.args.bytes.now c.in_ok-draft.draft read.form read.is_form
    (read.each read.form read.is_form) in
    record { few = omega (arith, few, c.requires.few, c.in_ok-draft.draft.rules.ok.0) }

pub returns : goal.returns
returns c =
    let sig = c.args.sig.now in
    let bytes = c.args.bytes.now in
    let result = c.program_of.result in
    let read = c.in_ok-draft.ensures.form in
    let right = c.in_ok-check_lines.ensures in
    let answer = answer-made sig bytes read.form read.is_form result right (λ f k. c.program_of.ensures f k.right
    (read.each f k) (whole-rules sig bytes MAX_KEPT (omega arith) f (right f k))) in
    record {
      found = answer-found sig bytes result answer;
      only = answer-only sig bytes result answer;
      fault = answer-fault sig bytes result answer;
      only_fault = answer-only_fault sig bytes result answer;
    }
