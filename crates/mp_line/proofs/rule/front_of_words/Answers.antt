use Rattle.std.proofs.Common.{arith}
use Rattle.mp_line.proofs.IfLaws.{front-whole}
use Rattle.mp_line.proofs.rule.front_of_words.Goals as goal

pub returns : goal.returns
returns c = front-whole c.args.text.now c.as_slice.result.now c.loop-end.end (omega arith) c.loop-end.invariant.front
    c.as_slice.ensures
