use Rattle.mp_ac.proofs.ListLaws.{comm_list-items}
use Rattle.mp_ac.proofs.laws.a_commutative_node_has_the_items_of_its_list.Goals as goal

pub returns : goal.returns
returns c sig g ps args owes s arguments trail = comm_list-items sig g ps args owes arguments s trail
