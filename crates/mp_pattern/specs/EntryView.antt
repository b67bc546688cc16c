-- The record that an entry of a take table is read as.
use Rattle.mp_pattern.specs.Fits as plain
use Rattle.mp_pattern.specs.declared.entry.Entry.{Entry}

-- an entry with the trees of its terms
abbrev pub table_entry : Entry → plain.Entry
table_entry e = record { terms = e.terms; collapsed = e.collapsed }
