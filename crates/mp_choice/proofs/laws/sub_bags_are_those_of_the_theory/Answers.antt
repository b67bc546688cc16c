use Rattle.mp_choice.proofs.SubBagClasses.{map-classes}
use Rattle.mp_choice.proofs.laws.sub_bags_are_those_of_the_theory.Goals as goal

pub returns : goal.returns
returns c = map-classes
