use Rattle.std.proofs.Common.{◌≡◌, true, false, length, sym, ◌∙◌, arith}
use Rattle.std.proofs.lemmas.List.{take_rest}
use Rattle.mp_line.proofs.WordLaws.{behind-found, behind-begins}
use Rattle.mp_line.proofs.words.behind.Goals as goal

pub returns-then-front-text : goal.returns-then-front-text
returns-then-front-text c = λ rest g. omega (arith, (behind-begins c.args.text.now c.args.front.now rest g).0)

pub returns-then-is_same : goal.returns-then-is_same
returns-then-is_same c =
    rw (take_rest c.args.text.now (length c.args.front.now))
    (behind-found c.args.text.now c.args.front.now (c.is_same.ensures.0 c.if-is_same.true))

pub returns-else-is_same : goal.returns-else-is_same
returns-else-is_same c = λ rest g. (
    let here = c.is_same.ensures.1 (behind-begins c.args.text.now c.args.front.now rest g).1 in
    let wrong : true ≡ false = sym here ∙ c.if-is_same.false in cc
    )
