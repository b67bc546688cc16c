-- The derivation order: in which order take tables come.
use Rattle.std.specs.declared.cmp.Ordering.{Ordering}
use Rattle.std.specs.Ordering.{ordering_then, bool_cmp}
use Rattle.std.specs.Cmp.Lexicographic.{slice_cmp}
use Rattle.mp_term.specs.Order.{tree_cmp, shortlex}
use Rattle.mp_pattern.specs.Fits.{Entry, Table}

-- by shortlex of the lists, then 'by arguments' before 'collapsed'
abbrev pub entry_cmp : Entry → Entry → Ordering
entry_cmp d e = ordering_then (shortlex tree_cmp d.terms e.terms) (bool_cmp d.collapsed e.collapsed)

-- entry by entry in preorder
abbrev pub table_cmp : Table → Table → Ordering
table_cmp = slice_cmp entry_cmp
