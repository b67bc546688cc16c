use Rattle.mp_term.proofs.ListingLaws.{unique_listing}
use Rattle.mp_choice.specs.SubBags.{bag_order, IsSubBag}
use Rattle.mp_choice.proofs.SubBagClasses.{bag_order_total}
use Rattle.mp_choice.proofs.laws.list_of_sub_bags_is_unique.Goals as goal

pub returns : goal.returns
returns c = λ cs xs ys. unique_listing bag_order bag_order_total (IsSubBag cs) xs ys
