-- What a `SubBags` shows: the list of all sub-multisets, cut at the place where it stands.
use Rattle.std.specs.Prelude.{◌≡◌, ◌≤◌, length, sum, vec_capacity}
use Rattle.mp_choice.specs.declared.sub_bags.SubBags.TheInside.{Inside}
use Rattle.mp_choice.specs.Choices.{Choices}
use Rattle.mp_choice.specs.Listed.{item_at, to_come_at, StandsAt}
use Rattle.mp_choice.specs.SubBags.{IsSubBag}
use Rattle.mp_choice.specs.SubBagList.{counts_order, sub_bags_of}
use Rattle.mp_choice.specs.declared.limits.TheConstants.{MAX_TOTAL}

-- what callers see
abbrev pub sub_bags_view : Inside → Choices
sub_bags_view s = record {
  item = item_at s.stage s.bag.items;
  to_come = to_come_at counts_order s.stage s.bag.items (sub_bags_of s.counts.items);
  room = s.room;
}

-- what holds between calls
pub record IsSound (s : Inside) : Type 0 where
  pub counts_room : s.room ≤ vec_capacity s.counts
  pub bag_room : s.room ≤ vec_capacity s.bag
  pub fits : length s.counts.items ≤ s.room
  pub same_length : length s.bag.items ≡ length s.counts.items
  pub bound : sum s.counts.items ≤ MAX_TOTAL
  pub stands : StandsAt (IsSubBag s.counts.items) s.stage s.bag.items
