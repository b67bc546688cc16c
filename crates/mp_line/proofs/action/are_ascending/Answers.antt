use Rattle.std.proofs.Common.{◌-◌, sym, ◌∙◌, arith}
use Rattle.mp_line.proofs.ActionLaws.{ascending-end}
use Rattle.mp_line.proofs.action.are_ascending.Goals as goal

pub returns : goal.returns
returns c =
    sym (ascending-end c.args.numbers.now (c.loop-index.index - 1) (omega arith)) ∙ c.loop-index.invariant
