use Rattle.std.proofs.Common.{sym, ◌∙◌}
use Rattle.std.proofs.lemmas.List.{take_rest}
use Rattle.mp_line.proofs.WordLaws.{cut-position, cut-none}
use Rattle.mp_line.proofs.words.first_word.Goals as goal

pub returns-in-Some : goal.returns-in-Some
returns-in-Some c =
    let text = c.args.text.now in
    let at = c.in-Some.at in
    rw (take_rest text at) (cut-position text at (sym c.first_place.ensures ∙ c.in-Some.is))

pub returns-in-None : goal.returns-in-None
returns-in-None c =
    cut-none c.args.text.now c.as_slice.result.now (sym c.first_place.ensures ∙ c.in-None.is) c.as_slice.ensures
