use Rattle.std.proofs.Common.{◌∙◌, ap, arith, take}
use Rattle.std.specs.List.{range_with_len}
use Rattle.mp_cursor.proofs.RangeLaws.{range-take}
use Rattle.mp_cursor.proofs.look.numbers.Goals as goal

pub returns : goal.returns
returns c = ap (λ n. take n (range_with_len 0 32)) c.vars.ensures.count
    ∙ range-take 0 _ 32 (omega (arith, c.vars.ensures.count, c.vars.ensures.most))
