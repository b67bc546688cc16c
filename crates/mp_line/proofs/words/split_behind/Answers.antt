use Rattle.mp_line.proofs.EndLaws.{no-behind, behind-parts, behind-split}
use Rattle.mp_line.proofs.words.split_behind.Goals as goal

pub returns-in_default : goal.returns-in_default
returns-in_default c = no-behind c.args.end.now c.args.byte c.args.text.now c.in_default.ensures

pub returns-in-Some-before : goal.returns-in-Some-before
returns-in-Some-before c = behind-split c.args.end.now c.args.byte c.args.text.now c.in-Some.front.now
    c.in-Some.word.now c.in-Some-before.rest.now c.in-Some.ensures c.in-Some-before.ensures

pub returns-in-None : goal.returns-in-None
returns-in-None c = λ p h. c.in-None.ensures p.0
    (behind-parts c.args.end.now c.args.byte c.args.text.now c.in-Some.front.now c.in-Some.word.now c.in-Some.ensures
    p h).0
