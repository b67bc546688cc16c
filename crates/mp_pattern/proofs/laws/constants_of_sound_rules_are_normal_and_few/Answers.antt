use Rattle.mp_pattern.proofs.ConstantLaws.{constants-normal, constants-nodes}
use Rattle.mp_pattern.proofs.laws.constants_of_sound_rules_are_normal_and_few.Goals as goal

pub returns-clause-normal : goal.returns-clause-normal
returns-clause-normal c = constants-normal

pub returns-clause-few : goal.returns-clause-few
returns-clause-few c = constants-nodes
