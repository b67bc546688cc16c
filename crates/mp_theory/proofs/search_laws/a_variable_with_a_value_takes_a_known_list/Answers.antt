use Rattle.mp_theory.proofs.KnownLists.{known-taken}
use Rattle.mp_theory.proofs.search_laws.a_variable_with_a_value_takes_a_known_list.Goals as goal

pub returns : goal.returns
returns c = known-taken
