use Rattle.std.proofs.Common.{[], ◌∷◌, sym, subst}
use Rattle.std.specs.Prelude.{codes, decimal}
use Rattle.mp_io.specs.Writing.{Puts}
use Rattle.mp_io.proofs.WritingLaws.{Puts-then}
use Rattle.mp_pattern.specs.NetTokenView.{net_token}
use Rattle.mp_program.specs.FormText.{token_text, action_text, target_text}
use Rattle.mp_program.proofs.PrintedLines.{line-end}
use Rattle.mp_program.proofs.printer.put_instr.Goals as goal

pub returns : goal.returns
returns g c =
    let instr = c.args.instr.now in
    let token = token_text c.args.sig.now (net_token instr.token) in
    let action = action_text instr.down instr.accepts in
    let target = target_text instr.over in
    let acted : Puts g.K.Sink c.put-2.new.self c.put_action.new.out action =
    subst (λ ns. Puts g.K.Sink c.put-2.new.self c.put_action.new.out (action_text instr.down ns)) c.as_slice.ensures
    c.put_action.ensures in
    subst (Puts g.K.Sink c.args.out.now c.put-4.new.self) (sym (line-end (decimal c.args.number) token action target))
    (Puts-then g.K.Sink _ _ _ (decimal c.args.number) _ c.put_number.ensures
    (Puts-then g.K.Sink _ _ _ (codes " ") _ c.put.ensures
    (Puts-then g.K.Sink _ _ _ token _ c.put_token.ensures
    (Puts-then g.K.Sink _ _ _ (codes " ") _ c.put-2.ensures
    (Puts-then g.K.Sink _ _ _ action _ acted
    (Puts-then g.K.Sink _ _ _ (codes " over ") _ c.put-3.ensures
    (Puts-then g.K.Sink _ _ _ target (10 ∷ []) c.put_target.ensures c.put-4.ensures)))))))
