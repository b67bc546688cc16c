use Rattle.std.proofs.Common.{◌+◌, sym, ◌∙◌, add-one}
use Rattle.std.proofs.lemmas.List.{take_rest}
use Rattle.mp_line.proofs.WordLaws.{without-position, split-position}
use Rattle.mp_line.proofs.words.split_first.Goals as goal

pub returns-in-Some : goal.returns-in-Some
returns-in-Some c =
    let text = c.args.text.now in
    let at = c.in-Some.at in
    rw (take_rest text (at + 1), add-one at) (split-position c.args.byte text at (sym c.first_place.ensures
    ∙ c.in-Some.is))

pub returns-in-None : goal.returns-in-None
returns-in-None c = without-position c.args.byte c.args.text.now (sym c.first_place.ensures ∙ c.in-None.is)
