use Rattle.std.proofs.Common.{◌≡◌, true, false, sym, subst, ◌∙◌, arith}
use Rattle.mp_walk.specs.InstrView.{plain_instr}
use Rattle.mp_line.specs.Finds.{Finds}
use Rattle.mp_line.specs.LineTexts.{IsInstrText}
use Rattle.mp_line.proofs.LineLaws.{begin-found, no-begin, stop-found, instr-here, no-code-line}
use Rattle.mp_line.proofs.line.code_line.Goals as goal

pub returns-in_default-target : goal.returns-in_default-target
returns-in_default-target c =
    no-begin c.args.sig.now c.args.format c.args.own c.requires.number (omega arith) c.args.text.now c.in-Some.word.now
    c.in-Some.ensures.is c.in_default-target.ensures

pub returns-in-Some : goal.returns-in-Some
returns-in-Some c =
    begin-found c.args.sig.now c.args.format c.args.own c.requires.number
    (omega arith) c.args.text.now c.in-Some.word.now
    c.in-Some-target.first c.in-Some.ensures.is c.in-Some-target.ensures

pub returns-in-Some-2 : goal.returns-in-Some-2
returns-in-Some-2 c =
    let sig = c.args.sig.now in
    let text = c.args.text.now in
    instr-here sig c.args.format c.args.own c.requires.number (omega arith) text (plain_instr c.in-Some-2.instr)
    (subst (Finds plain_instr (IsInstrText sig c.args.format c.args.own text)) c.in-Some-2.is c.in_ok-instr.ensures)

pub returns-then-is_stop : goal.returns-then-is_stop
returns-then-is_stop c =
    stop-found c.args.sig.now c.args.format c.args.own c.requires.number (omega arith) c.args.text.now
    (c.is_stop.ensures.0 c.if-is_stop.true)

pub returns : goal.returns
returns c =
    let sig = c.args.sig.now in
    let text = c.args.text.now in
    no-code-line sig c.args.format c.args.own c.requires.number (omega arith) text c.in_default.ensures
    (subst (Finds plain_instr (IsInstrText sig c.args.format c.args.own text)) c.in_default-2.is c.in_ok-instr.ensures)
    (λ e. (let wrong : true ≡ false = sym (c.is_stop.ensures.1 e) ∙ c.if-is_stop.false in cc))
