use Rattle.std.proofs.Common.{sym, subst}
use Rattle.std.specs.Prelude.{decimal}
use Rattle.mp_program.specs.RightForm.{IsShort}
use Rattle.mp_line.proofs.ItemLaws.{IsFrontOf, not-empty, is-empty, front-more, front-stuck, front-other}
use Rattle.mp_line.proofs.ItemLaws.{front-all}
use Rattle.mp_line.proofs.NumberLaws.{bare-decimal}
use Rattle.mp_line.proofs.numbers.numbers.Goals as goal

pub returns-in_default : goal.returns-in_default
returns-in_default c =
    let rest = c.loop-rest.rest.now in
    front-stuck IsShort decimal bare-decimal c.args.text.now rest c.loop-rest.numbers c.loop-rest.invariant
    (not-empty rest c.is_empty.result c.is_empty.ensures c.loop-rest-test.true)
    (λ word behind h. c.in_default.ensures (word, behind) h)

pub returns-in_default-number : goal.returns-in_default-number
returns-in_default-number c =
    front-other IsShort decimal bare-decimal c.args.text.now c.loop-rest.rest.now c.in-Some.word.now
    c.in-Some.behind.now
    c.loop-rest.numbers c.loop-rest.invariant c.in-Some.ensures.is
    (λ n short same. c.in_default-number.ensures n (record { short = short; text = same }))

pub loop-rest-preserved : goal.loop-rest-preserved
loop-rest-preserved c =
    let number = c.in-Some-number.ensures in
    subst (IsFrontOf IsShort decimal c.args.text.now c.in-Some.behind.now) (sym c.in_ok-push.ensures.ok)
    (front-more IsShort decimal bare-decimal c.args.text.now c.loop-rest.rest.now c.in-Some.word.now
    c.in-Some.behind.now c.loop-rest.numbers c.in-Some-number.number c.loop-rest.invariant c.in-Some.ensures.is
    number.is.short number.is.text (λ n short same. number.only n (record { short = short; text = same })))

pub returns : goal.returns
returns c =
    let rest = c.loop-rest.rest.now in
    front-all IsShort decimal bare-decimal c.args.text.now rest c.loop-rest.numbers c.loop-rest.invariant
    (is-empty rest c.is_empty.result c.is_empty.ensures c.loop-rest-test.false)
