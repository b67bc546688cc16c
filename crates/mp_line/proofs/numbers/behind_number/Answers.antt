use Rattle.std.proofs.Common.{arith}
use Rattle.mp_line.proofs.NumberLaws.{behind-number, other-number, numberless, blankless}
use Rattle.mp_line.proofs.numbers.behind_number.Goals as goal

pub returns-in_default : goal.returns-in_default
returns-in_default c = blankless c.args.line.now c.args.own c.in_default.ensures

pub returns-in_default-number : goal.returns-in_default-number
returns-in_default-number c =
    numberless c.args.line.now c.in-Some.word.now c.in-Some.rest.now c.args.own (omega arith) c.in-Some.ensures
    c.in_default-number.ensures

pub returns-then-number-own : goal.returns-then-number-own
returns-then-number-own c =
    behind-number c.args.line.now c.in-Some.word.now c.in-Some.rest.now c.args.own c.in-Some-number.number (omega arith)
    c.in-Some.ensures c.in-Some-number.ensures (omega arith)

pub returns-else-number-own : goal.returns-else-number-own
returns-else-number-own c =
    other-number c.args.line.now c.in-Some.word.now c.in-Some.rest.now c.args.own c.in-Some-number.number (omega arith)
    c.in-Some.ensures c.in-Some-number.ensures (λ e. omega arith)
