use Rattle.std.proofs.Common.{◌≡◌, ◌+◌, length, map, ap, sym, ◌∙◌, arith}
use Rattle.std.specs.Prelude.{Ok, Err}
use Rattle.std.proofs.lemmas.List.{length-map}
use Rattle.std.proofs.lemmas.Result.{err_from_is_err_and}
use Rattle.mp_walk.specs.InstrView.{plain_instr}
use Rattle.mp_line.specs.declared.names.TheConstants.{MAX_KEPT}
use Rattle.mp_vm.proofs.ProgramReading.{code-checked, line-begin}
use Rattle.mp_vm.proofs.reader.program_of.Goals as goal

pub returns-in_err-check_code : goal.returns-in_err-check_code
returns-in_err-check_code c = λ f right own whole.
    let d = c.args.draft in
    let made = c.in_ok-rules.ensures f right own.format (own.rules ∙ whole) own.tests in
    let p = err_from_is_err_and c.from_residual-in_err-check_code.result
    c.from_residual-in_err-check_code.ensures.1 in
    let stored : c.len-2.result ≡ length d.rules.items = omega (arith, c.len-2.ensures, d.rules.ok.0) in
    let line = line-begin MAX_KEPT d f own c.len.result c.len-2.result c.len.ensures stored in
    let code = c.as_slice.ensures ∙ own.code in
    rw (p.1, p.2) (code-checked c.args.sig.now {T = Unit {0}} f d.format d.begin (length c.as_slice.result.now)
    (map plain_instr c.as_slice.result.now) c.in_ok-rules.tests c.in_ok-rules.rules
    (d.declarations + (c.len.result + c.len-2.result) + 3) (Err c.in_err-check_code.field-0.0) own.format own.begin
    (sym (length-map c.as_slice.result.now plain_instr) ∙ ap length code) code made line c.in_err-check_code.ensures)

pub returns : goal.returns
returns c = λ f right own whole.
    let d = c.args.draft in
    let made = c.in_ok-rules.ensures f right own.format (own.rules ∙ whole) own.tests in
    let stored : c.len-2.result ≡ length d.rules.items = omega (arith, c.len-2.ensures, d.rules.ok.0) in
    let line = line-begin MAX_KEPT d f own c.len.result c.len-2.result c.len.ensures stored in
    let code = c.as_slice.ensures ∙ own.code in (
      code-checked c.args.sig.now {T = Unit {0}} f d.format d.begin (length c.as_slice.result.now)
          (map plain_instr c.as_slice.result.now) c.in_ok-rules.tests c.in_ok-rules.rules
          (d.declarations + (c.len.result + c.len-2.result) + 3) (Ok c.in_ok-check_code.field-0) own.format own.begin
          (sym (length-map c.as_slice.result.now plain_instr) ∙ ap length code) code made line
          c.in_ok-check_code.ensures,
      λ i. record { rules = made.0 i; tests = made.1 i; code = own.code i },
    )
