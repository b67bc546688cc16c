use Rattle.std.proofs.Common.{sym, ◌∙◌}
use Rattle.std.specs.List.{list_any}
use Rattle.mp_term.specs.declared.term.OpId.{OpId}
use Rattle.mp_term.specs.Signature.{has_sign}
use Rattle.mp_build.specs.declared.fault.TextKind.TheVariants.{DuplicateName}
use Rattle.mp_build.proofs.Fails.{fails-fault_if}
use Rattle.mp_build.proofs.Faultless.{none-fault_if}
use Rattle.mp_build.proofs.Declared.{is_some-found_sign}
use Rattle.mp_build.proofs.declaration.check_sign.Goals as goal

pub returns-then-is_some : goal.returns-then-is_some
returns-then-is_some c =
    let text = c.in-Some.sign.text.now in
    let ops = c.args.sig.now.ops in
    let test = sym (is_some-found_sign (λ (id : OpId). id.0) c.find_sign.result text ops c.find_sign.ensures)
    ∙ sym c.is_some.ensures ∙ c.if-is_some.true in
    rw c.in-Some.is
    (fails-fault_if c.error_at.result (list_any (has_sign text) ops) DuplicateName c.in-Some.sign.place
    c.error_at.ensures test)

pub returns-else-is_some : goal.returns-else-is_some
returns-else-is_some c =
    let text = c.in-Some.sign.text.now in
    let ops = c.args.sig.now.ops in
    let test = sym (is_some-found_sign (λ (id : OpId). id.0) c.find_sign.result text ops c.find_sign.ensures)
    ∙ sym c.is_some.ensures ∙ c.if-is_some.false in
    (rw c.in-Some.is (none-fault_if (list_any (has_sign text) ops) DuplicateName c.in-Some.sign.place test), tt)
