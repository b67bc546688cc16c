use Rattle.mp_line.proofs.EndLaws.{no-end, other-end, end-found}
use Rattle.mp_line.proofs.ActionLaws.{led-ends}
use Rattle.mp_line.proofs.action.led.Goals as goal

pub returns-in_default : goal.returns-in_default
returns-in_default c = no-end (led-ends c.args.text.now) c.in_default.ensures

pub returns-in-Some-number : goal.returns-in-Some-number
returns-in-Some-number c = end-found (led-ends c.args.text.now) c.in-Some.token.now c.in-Some.word.now
    c.in-Some-number.number c.in-Some.ensures c.in-Some-number.ensures

pub returns-in-None : goal.returns-in-None
returns-in-None c =
    other-end (led-ends c.args.text.now) c.in-Some.token.now c.in-Some.word.now c.in-Some.ensures c.in-None.ensures
