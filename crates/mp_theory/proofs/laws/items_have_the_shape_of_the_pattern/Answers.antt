use Rattle.mp_theory.proofs.OneListLaws.{items-shape}
use Rattle.mp_theory.proofs.laws.items_have_the_shape_of_the_pattern.Goals as goal

pub returns : goal.returns
returns c = λ sig r t is normal h. items-shape sig r t is normal h.least
