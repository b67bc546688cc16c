-- What is read of the entries of the tokens that a walk has read.
use Rattle.std.specs.Prelude.{◌≡◌, ℕ, Bool, List, Some, slice_get}
use Rattle.mp_pattern.specs.Fits as fits
use Rattle.mp_table.specs.declared.rank.Rank.{Rank}
use Rattle.mp_table.specs.Table.{Table, HasRanks, terms_at}

-- the entry of ranks and a mark
abbrev pub entry_read : Table → List Rank × Bool → fits.Entry
entry_read t e = record { terms = terms_at t e.0; collapsed = e.1 }

-- they are the table's, and that of the node of the number
abbrev pub IsEntryAt : Table → fits.Table → ℕ → List Rank × Bool → Type 0
IsEntryAt t T n e = HasRanks t e.0 × (slice_get T n ≡ Some (entry_read t e))
