use Rattle.mp_theory.proofs.ItemLaws.{item_list-items}
use Rattle.mp_theory.proofs.laws.the_search_lists_the_items.Goals as goal

pub returns : goal.returns
returns c sig r t = item_list-items sig r t
