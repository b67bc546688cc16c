use Rattle.mp_line.proofs.TokenLaws.{counted-parts, counted-found}
use Rattle.mp_line.proofs.wild.counted.Goals as goal

pub returns-in_default-variable : goal.returns-in_default-variable
returns-in_default-variable c = λ sig k g. (
    let m = counted-parts sig c.args.text.now c.in-Some.word.now c.in-Some.rest.now k c.in-Some.ensures g in
    c.in_default-variable.ensures m.0 m.2
    )

pub returns-in-Some-any_count : goal.returns-in-Some-any_count
returns-in-Some-any_count c = λ sig. counted-found sig c.args.text.now c.in-Some.word.now c.in-Some.rest.now
    c.in-Some-any_count.number c.in-Some-any_count.fixed c.in-Some-variable.variable c.in-Some.ensures
    c.in-Some-variable.ensures c.in-Some-any_count.ensures

pub returns-in-None : goal.returns-in-None
returns-in-None c = λ sig k g. (
    let m = counted-parts sig c.args.text.now c.in-Some.word.now c.in-Some.rest.now k c.in-Some.ensures g in
    c.in-None.ensures m.1 m.3
    )
