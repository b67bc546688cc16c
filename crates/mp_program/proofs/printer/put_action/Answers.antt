use Rattle.std.proofs.Common.{◌≡◌, ◌++◌, ap, sym, ◌∙◌, subst}
use Rattle.std.specs.Prelude.{codes, decimal}
use Rattle.std.specs.List.{flat_map}
use Rattle.mp_io.specs.Writing.{Puts}
use Rattle.mp_io.proofs.WritingLaws.{Puts-then}
use Rattle.mp_program.specs.FormText.{action_text}
use Rattle.mp_program.proofs.PrintedLines.{preceded-map}
use Rattle.mp_program.proofs.printer.put_action.Goals as goal

pub returns-in-None : goal.returns-in-None
returns-in-None g c =
    let accepts = c.args.accepts.now in
    let text : action_text c.args.down accepts ≡ codes "accept" ++ flat_map (λ n. codes " " ++ decimal n) accepts =
    ap (λ d. action_text d accepts) c.in-None.is
    ∙ ap (λ t. codes "accept" ++ t) (preceded-map (codes " ") decimal accepts) in
    subst (Puts g.K.Sink c.args.out.now c.put_numbers.new.out) (sym text)
    (Puts-then g.K.Sink _ _ _ (codes "accept") _ c.put-in-None.ensures c.put_numbers.ensures)
