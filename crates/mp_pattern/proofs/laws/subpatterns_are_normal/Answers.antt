use Rattle.mp_pattern.proofs.NormalShape.{all-subpatterns}
use Rattle.mp_pattern.proofs.laws.subpatterns_are_normal.Goals as goal

pub returns : goal.returns
returns c = all-subpatterns
