use Rattle.mp_theory.proofs.KeptValues.{items-keep}
use Rattle.mp_theory.proofs.search_laws.items_keep_the_values.Goals as goal

pub returns : goal.returns
returns c = items-keep
