-- The entries of resume tokens.
use Rattle.std.specs.Prelude.{◌<◌, ◌^◌, Bool, List}
use Rattle.std.specs.List.{AllByRecursion}
use Rattle.std.specs.Coded.{Coded, coded×, coded_bool, coded_list}
use Rattle.mp_table.specs.declared.rank.Rank.{Rank}
use Rattle.mp_table.specs.TableCode.{coded_rank}

-- the ranks of the terms of an entry, and whether it is collapsed
abbrev pub Entry : Type 0
Entry = List Rank × Bool

-- a rank is a number of 32 bits
abbrev pub IsRank : Rank → Type 0
IsRank r = r.0 < 2 ^ 32

-- the ranks of an entry are ranks
abbrev pub IsEntry : Entry → Type 0
IsEntry e = AllByRecursion IsRank e.0

-- an entry as the pair of its ranks and its mark
abbrev pub coded_entry : Coded Entry
coded_entry = coded× (coded_list coded_rank) coded_bool
