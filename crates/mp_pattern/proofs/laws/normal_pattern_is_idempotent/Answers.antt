use Rattle.mp_pattern.proofs.NormalShape.{normal_pattern-normal_pattern}
use Rattle.mp_pattern.proofs.laws.normal_pattern_is_idempotent.Goals as goal

pub returns : goal.returns
returns c = normal_pattern-normal_pattern
