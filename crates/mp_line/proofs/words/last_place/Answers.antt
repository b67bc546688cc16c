use Rattle.std.proofs.Common.{arith}
use Rattle.mp_line.proofs.WordLaws.{without-all}
use Rattle.mp_line.proofs.words.last_place.Goals as goal

pub returns : goal.returns
returns c = without-all c.args.byte c.args.text.now (λ k within. c.loop-end.invariant.behind k (omega arith) within)
