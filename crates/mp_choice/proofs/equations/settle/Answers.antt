use Rattle.std.proofs.Common.{arith}
use Rattle.mp_choice.proofs.EquationLoops.{searches-start, searches-filled, searches-advanced}
use Rattle.mp_choice.proofs.EquationLoops.{searches-none, searches-found, left-falls}
use Rattle.mp_choice.proofs.equations.settle.Goals as goal

pub loop-rest-init : goal.loop-rest-init
loop-rest-init c = searches-start c.args.coefficients.now c.args.total c.args.numbers.now c.args.rest
    c.requires.one_each c.requires.lacks

pub returns-then-rest-eq0 : goal.returns-then-rest-eq0
returns-then-rest-eq0 c = searches-found c.args.coefficients.now c.args.total c.args.numbers.now
    c.fill_last-rest.new.numbers c.fill_last-rest.result
    (searches-filled c.args.coefficients.now c.args.total c.args.numbers.now c.loop-rest.numbers
    c.fill_last-rest.new.numbers c.loop-rest.rest c.fill_last-rest.result c.loop-rest.invariant
    c.fill_last-rest.ensures) c.if-rest-eq0.true

pub returns-in-None : goal.returns-in-None
returns-in-None c = searches-none c.args.coefficients.now c.args.total c.args.numbers.now
    c.fill_last-rest.new.numbers c.fill_last-rest.result
    (searches-filled c.args.coefficients.now c.args.total c.args.numbers.now c.loop-rest.numbers
    c.fill_last-rest.new.numbers c.loop-rest.rest c.fill_last-rest.result c.loop-rest.invariant
    c.fill_last-rest.ensures) (omega arith) c.in-None.ensures

pub loop-rest-preserved : goal.loop-rest-preserved
loop-rest-preserved c = searches-advanced c.args.coefficients.now c.args.total c.args.numbers.now
    c.fill_last-rest.new.numbers c.advance.new.numbers c.fill_last-rest.result c.in-Some.lacking
    (searches-filled c.args.coefficients.now c.args.total c.args.numbers.now c.loop-rest.numbers
    c.fill_last-rest.new.numbers c.loop-rest.rest c.fill_last-rest.result c.loop-rest.invariant
    c.fill_last-rest.ensures) (omega arith) c.in-Some.ensures

pub loop-rest-smaller : goal.loop-rest-smaller
loop-rest-smaller c = left-falls c.args.coefficients.now c.args.total c.args.numbers.now c.loop-rest.numbers
    c.fill_last-rest.new.numbers c.advance.new.numbers c.in-Some.lacking c.requires.positive (loop-rest-preserved c)
    c.fill_last-rest.ensures.from c.in-Some.ensures.next.above
