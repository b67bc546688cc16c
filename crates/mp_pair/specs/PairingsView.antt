-- What a `Pairings` shows: the list of all pairings, cut at the place where it stands.
use Rattle.std.specs.Prelude.{◌≡◌, length, All}
use Rattle.std.specs.List.Sorted.{IsStrictlyIncreasing}
use Rattle.std.specs.Ordering.{nat_cmp}
use Rattle.std.specs.Cmp.Lexicographic.{slice_cmp}
use Rattle.mp_choice.specs.Choices.{Choices}
use Rattle.mp_choice.specs.Listed.{item_at, to_come_at, StandsAt}
use Rattle.mp_pair.specs.declared.pairings.Pairings.TheInside.{Inside}
use Rattle.mp_pair.specs.Bipartite.{lists}
use Rattle.mp_pair.specs.Pairings.{IsPairing}
use Rattle.mp_pair.specs.PairingList.{pairings_of}

-- what callers see
abbrev pub pairings_view : Inside → Choices
pairings_view s = record {
  item = item_at s.stage s.choice.items;
  to_come = to_come_at (slice_cmp nat_cmp) s.stage s.choice.items
      (pairings_of s.capacities.items (lists s.left.items));
  room = length s.left.items;
}

-- what holds between calls
pub record IsSound (s : Inside) : Type 0 where
  pub same_length : length s.choice.items ≡ length s.left.items
  pub ascending : All IsStrictlyIncreasing (lists s.left.items)
  pub stands : StandsAt (IsPairing s.capacities.items (lists s.left.items)) s.stage s.choice.items
