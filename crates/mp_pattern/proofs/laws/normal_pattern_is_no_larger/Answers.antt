use Rattle.mp_pattern.proofs.NormalMeasures.{pattern_nodes-normal_pattern}
use Rattle.mp_pattern.proofs.laws.normal_pattern_is_no_larger.Goals as goal

pub returns : goal.returns
returns c = pattern_nodes-normal_pattern
