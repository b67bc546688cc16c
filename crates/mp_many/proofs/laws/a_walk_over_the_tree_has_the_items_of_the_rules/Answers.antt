use Rattle.mp_many.proofs.ItemLaws.{are-walk_items}
use Rattle.mp_many.proofs.laws.a_walk_over_the_tree_has_the_items_of_the_rules.Goals as goal

pub returns : goal.returns
returns c = λ sig rules t is sound normal are. are-walk_items sig rules sound.each t normal is are
