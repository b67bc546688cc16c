use Rattle.std.proofs.Common.{◌≡◌, ◌+◌, ◌++◌, map, length, sym, subst, arith}
use Rattle.std.specs.Prelude.{codes, decimal}
use Rattle.std.proofs.lemmas.List.{length-map}
use Rattle.mp_io.specs.Writing.{Puts}
use Rattle.mp_io.proofs.WritingLaws.{Puts-then}
use Rattle.mp_walk.specs.InstrView.{plain_instr}
use Rattle.mp_program.specs.FormText.{lines_text, instr_lines, target_text, first_target}
use Rattle.mp_program.proofs.PrintedLines.{code_lines-text}
use Rattle.mp_program.proofs.printer.put_code.Goals as goal

pub returns : goal.returns
returns g c =
    let sig = c.args.sig.now in
    let code = map plain_instr c.args.code.now in
    let count : length c.args.code.now + 1 ≡ 1 + length code = omega (arith, length-map c.args.code.now plain_instr) in
    let first : Puts g.K.Sink c.put.new.self c.put_target.new.out (target_text (first_target code)) =
    subst (λ t. Puts g.K.Sink c.put.new.self c.put_target.new.out (target_text t)) c.first_target.ensures
    c.put_target.ensures in
    subst (λ t. Puts g.K.Sink c.args.out.now c.put-3.new.self
    (codes "code\n0 begin down " ++ (target_text (first_target code) ++ (codes "\n" ++ t))))
    (sym (code_lines-text sig code (length c.args.code.now + 1) count))
    (Puts-then g.K.Sink _ _ _ (codes "code\n0 begin down ") _ c.put.ensures
    (Puts-then g.K.Sink _ _ _ (target_text (first_target code)) _ first
    (Puts-then g.K.Sink _ _ _ (codes "\n") _ c.put-2.ensures
    (Puts-then g.K.Sink _ _ _ (lines_text (instr_lines sig 1 code)) _ c.put_instrs.ensures
    (Puts-then g.K.Sink _ _ _ (decimal (length c.args.code.now + 1)) (codes " stop\n") c.put_number.ensures
    c.put-3.ensures)))))
