use Rattle.mp_line.proofs.ItemLaws.{blank_word-found}
use Rattle.mp_line.proofs.words.blank_and_word.Goals as goal

pub returns-in-Some : goal.returns-in-Some
returns-in-Some c =
    let r = c.first_word.result in
    blank_word-found c.args.text.now c.in-Some.rest.now r.0.now r.1.now c.in-Some.ensures.is c.first_word.ensures

pub returns-in-None : goal.returns-in-None
returns-in-None c = λ p h. c.in-None.ensures h.rest h.blank
