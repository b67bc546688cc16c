use Rattle.mp_many.proofs.ItemLaws.{one-table}
use Rattle.mp_many.proofs.laws.a_rule_has_one_item_with_a_substitution.Goals as goal

pub returns : goal.returns
returns c = λ sig rules t is are. one-table sig rules t is
