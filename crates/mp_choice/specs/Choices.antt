-- What callers see of a generator.
use Rattle.std.specs.Prelude.{ℕ, zero, suc, List, Option, slice_get, drop}

-- the item at which it stands, if it stands at one; the items still to come; and the length of the longest list that it
-- can begin anew with
pub record Choices : Type 0 where
  pub item : Option (List ℕ)
  pub to_come : List (List ℕ)
  pub room : ℕ

-- one step on: the first item still to come, if there is one, and the rest
abbrev pub advanced : Choices → Choices
advanced c = record { item = slice_get c.to_come 0; to_come = drop 1 c.to_come; room = c.room }

-- k steps on
abbrev pub advanced_by : ℕ → Choices → Choices
advanced_by zero c = c
advanced_by (suc k) c = advanced_by k (advanced c)
