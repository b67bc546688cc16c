use Rattle.mp_theory.proofs.OneListLaws.{item_list-are, item_substs-item_list}
use Rattle.mp_theory.proofs.laws.the_item_list_is_the_one_list.Goals as goal

pub returns-clause-items : goal.returns-clause-items
returns-clause-items c = λ sig r t normal. item_list-are sig r t normal

pub returns-clause-substs : goal.returns-clause-substs
returns-clause-substs c = λ sig r t normal. item_substs-item_list sig r t normal
