use Rattle.std.proofs.Common.{◌≡◌, ◌-◌, true, false, length, sym, ◌∙◌, arith}
use Rattle.std.proofs.lemmas.List.{take_rest}
use Rattle.mp_line.proofs.WordLaws.{before-found, before-ends}
use Rattle.mp_line.proofs.words.before.Goals as goal

pub returns-then-end-text : goal.returns-then-end-text
returns-then-end-text c = λ rest g. omega (arith, (before-ends c.args.text.now c.args.end.now rest g).0)

pub returns-then-is_same : goal.returns-then-is_same
returns-then-is_same c =
    let text = c.args.text.now in
    let at = length text - length c.args.end.now in
    before-found text c.args.end.now at (sym (take_rest text at) ∙ c.is_same.ensures.0 c.if-is_same.true)

pub returns-else-is_same : goal.returns-else-is_same
returns-else-is_same c = λ rest g. (
    let text = c.args.text.now in
    let at = length text - length c.args.end.now in
    let ends = before-ends text c.args.end.now rest g in
    let here = c.is_same.ensures.1 (take_rest text at ∙ ends.1 at (omega (arith, ends.0))) in
    let wrong : true ≡ false = sym here ∙ c.if-is_same.false in cc
    )
