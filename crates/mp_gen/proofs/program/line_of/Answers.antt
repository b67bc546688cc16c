use Rattle.mp_gen.proofs.GeneratedLaws.{line-parts}
use Rattle.mp_gen.proofs.program.line_of.Goals as goal

pub returns : goal.returns
returns c = line-parts c.in_ok-name.ensures c.in_ok-vars.ensures c.in_ok-test.ensures
