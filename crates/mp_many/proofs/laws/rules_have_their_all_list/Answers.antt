use Rattle.mp_many.proofs.AllPairsLaws.{all_pairs-all_list}
use Rattle.mp_many.proofs.laws.rules_have_their_all_list.Goals as goal

pub returns : goal.returns
returns c = λ sig rules t normal. all_pairs-all_list sig t normal rules
