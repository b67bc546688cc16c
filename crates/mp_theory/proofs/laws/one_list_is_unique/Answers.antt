use Rattle.mp_theory.proofs.Unique.{IsOneList-unique}
use Rattle.mp_theory.proofs.laws.one_list_is_unique.Goals as goal

pub returns : goal.returns
returns c = λ sig r t ss us normal h k. IsOneList-unique sig t r normal ss us h k
