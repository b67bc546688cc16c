use Rattle.std.proofs.Common.{◌≡◌, ◌+◌, ◌-◌, suc, arith}
use Rattle.mp_print.specs.PrintedSignature.{kind_text}
use Rattle.mp_print.proofs.Parts.{Puts-got, held_kind_text-declared}
use Rattle.mp_print.proofs.signature_printer.put_kinds.Goals as goal

pub loop-number-preserved : goal.loop-number-preserved
loop-number-preserved g c =
    let number = c.loop-number.number in
    let here : number ≡ suc (number - 1) = omega (arith, c.loop-number.auto.number) in
    let next : number + 1 - 1 ≡ number - 1 + 1 = omega (arith, c.loop-number.auto.number) in
    rw next (Puts-got g.K.Sink kind_text c.args.sig.now.kinds (number - 1) _ _ _ c.loop-number.invariant
    (rw (held_kind_text-declared c.args.sig.now number (number - 1) here) at c.put_kind_of.ensures))
