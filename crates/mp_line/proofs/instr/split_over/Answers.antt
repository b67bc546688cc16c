use Rattle.mp_line.proofs.EndLaws.{no-end, other-end, end-found}
use Rattle.mp_line.proofs.InstrLaws.{over-ends}
use Rattle.mp_line.proofs.instr.split_over.Goals as goal

pub returns-in_default : goal.returns-in_default
returns-in_default c = no-end (over-ends c.args.text.now) c.in_default.ensures

pub returns-in-Some-target : goal.returns-in-Some-target
returns-in-Some-target c = end-found (over-ends c.args.text.now) c.in-Some.rest.now c.in-Some.word.now
    c.in-Some-target.target c.in-Some.ensures c.in-Some-target.ensures

pub returns-in-None : goal.returns-in-None
returns-in-None c =
    other-end (over-ends c.args.text.now) c.in-Some.rest.now c.in-Some.word.now c.in-Some.ensures c.in-None.ensures
