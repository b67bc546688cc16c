use Rattle.mp_theory.proofs.OneListLaws.{one_list-is}
use Rattle.mp_theory.proofs.laws.one_list_is_the_one_list.Goals as goal

pub returns : goal.returns
returns c = λ sig r t normal. one_list-is sig r t normal
