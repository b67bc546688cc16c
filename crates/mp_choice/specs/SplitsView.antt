-- What a `Splits` shows: the list of all splits, cut at the place where it stands.
use Rattle.std.specs.Prelude.{◌≡◌, ◌≤◌, length, vec_capacity}
use Rattle.std.specs.Ordering.{nat_cmp}
use Rattle.std.specs.Cmp.Lexicographic.{slice_cmp}
use Rattle.mp_choice.specs.declared.splits.Splits.TheInside.{Inside}
use Rattle.mp_choice.specs.Choices.{Choices}
use Rattle.mp_choice.specs.Listed.{item_at, to_come_at, StandsAt}
use Rattle.mp_choice.specs.Splits.{IsSplit, leasts}
use Rattle.mp_choice.specs.SplitList.{splits_of}
use Rattle.mp_choice.specs.declared.limits.TheConstants.{MAX_TOTAL}

-- what callers see
abbrev pub splits_view : Inside → Choices
splits_view s = record {
  item = item_at s.stage s.lengths.items;
  to_come = to_come_at (slice_cmp nat_cmp) s.stage s.lengths.items (splits_of s.total s.parts.items);
  room = s.room;
}

-- what holds between calls
pub record IsSound (s : Inside) : Type 0 where
  pub parts_room : s.room ≤ vec_capacity s.parts
  pub lengths_room : s.room ≤ vec_capacity s.lengths
  pub fits : length s.parts.items ≤ s.room
  pub same_length : length s.lengths.items ≡ length s.parts.items
  pub total_bound : s.total ≤ MAX_TOTAL
  pub least_bound : leasts s.parts.items ≤ MAX_TOTAL
  pub stands : StandsAt (IsSplit s.total s.parts.items) s.stage s.lengths.items
