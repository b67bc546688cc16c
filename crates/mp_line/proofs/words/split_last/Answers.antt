use Rattle.std.proofs.Common.{◌+◌, add-one}
use Rattle.std.proofs.lemmas.List.{take_rest}
use Rattle.mp_line.proofs.WordLaws.{split-last}
use Rattle.mp_line.proofs.words.split_last.Goals as goal

pub returns-in-Some : goal.returns-in-Some
returns-in-Some c =
    let text = c.args.text.now in
    let at = c.in-Some.at in
    rw (take_rest text (at + 1), add-one at) (split-last c.args.byte text at c.in-Some.ensures)
