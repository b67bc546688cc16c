use Rattle.std.proofs.Common.{◌≤◌, ◌-◌, length}
use Rattle.mp_ac.specs.Search.{item_table}
use Rattle.mp_walk.proofs.entries.below_entry.Given as goal

-- so many entries are there
abbrev pub invariant-loop-count : goal.invariant-loop-count
invariant-loop-count l = record { within : l.count ≤ length (item_table l.search) }

-- how many more there are
abbrev pub decreases-loop-count : goal.decreases-loop-count
decreases-loop-count l = length (item_table l.search) - l.count
