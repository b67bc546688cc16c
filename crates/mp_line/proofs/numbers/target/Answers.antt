use Rattle.mp_line.proofs.NumberLaws.{dash-only}
use Rattle.mp_line.proofs.numbers.target.Goals as goal

pub returns-then-is_same : goal.returns-then-is_same
returns-then-is_same c = dash-only c.args.word.now (c.is_same.ensures.0 c.if-is_same.true)
