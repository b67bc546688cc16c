use Rattle.mp_theory.proofs.AllList.{IsAllList-unique}
use Rattle.mp_theory.proofs.laws.all_list_is_unique.Goals as goal

pub returns : goal.returns
returns c = IsAllList-unique
