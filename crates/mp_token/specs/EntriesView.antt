-- The entries of a token, as its fields have them.
use Rattle.std.specs.Prelude.{List, map}
use Rattle.mp_token.specs.Entry.{Entry}
use Rattle.mp_token.specs.declared.entries.TokenEntry.{TokenEntry}
use Rattle.mp_token.specs.declared.entries.TokenEntries.TheInside.{Inside}

-- an entry without where it lies in memory
abbrev pub entry_of : TokenEntry → Entry
entry_of e = (e.ranks.items, e.collapsed)

-- what contracts see of the entries
abbrev pub entries_of : Inside → List Entry
entries_of t = map entry_of t.items.items
