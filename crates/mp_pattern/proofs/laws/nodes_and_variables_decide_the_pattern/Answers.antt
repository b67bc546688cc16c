use Rattle.mp_pattern.proofs.OnePattern.{one_pattern}
use Rattle.mp_pattern.proofs.laws.nodes_and_variables_decide_the_pattern.Goals as goal

pub returns : goal.returns
returns c = λ sig other p q e v. one_pattern sig other p q e v
