use Rattle.mp_walk.specs.InstrView.{plain_instr}
use Rattle.mp_line.specs.Finds.{Finds}
use Rattle.mp_line.specs.LineTexts.{IsInstrBody, IsInstrText}
use Rattle.mp_line.proofs.FindsLaws.{IfOk-also}
use Rattle.mp_line.proofs.InstrLaws.{body-through, no-line}
use Rattle.mp_line.proofs.instr.read_instr.Goals as goal

pub returns-in-Some : goal.returns-in-Some
returns-in-Some c =
    let sig = c.args.sig.now in
    let text = c.args.text.now in
    let rest = c.in-Some.rest.now in
    IfOk-also c.instr.result (λ o. Finds plain_instr (IsInstrBody sig c.args.format rest) o)
    (λ o. Finds plain_instr (IsInstrText sig c.args.format c.args.own text) o)
    (λ o h. body-through sig c.args.format c.args.own text rest plain_instr o c.in-Some.ensures.is h) c.instr.ensures

pub returns-in-None : goal.returns-in-None
returns-in-None c = no-line c.args.sig.now c.args.format c.args.own c.args.text.now c.in-None.ensures
