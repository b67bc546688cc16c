use Rattle.mp_theory.proofs.Leading.{leads-items}
use Rattle.mp_theory.proofs.search_laws.choices_with_items_lead_to_all_items.Goals as goal

pub returns : goal.returns
returns c = leads-items
