-- What is looked for in a table.
use Rattle.std.specs.Prelude.{⊤}
use Rattle.mp_term.specs.Tree.{Tree, symbol, app, trees}
use Rattle.mp_term.specs.View.{tree}
use Rattle.mp_table.specs.Table.{Table, terms_at, HasRanks}
use Rattle.mp_table.specs.declared.search.Sought.{Sought}
use Rattle.mp_table.specs.declared.search.Sought.TheVariants as sought

-- the term that is looked for
abbrev pub sought_tree : Table → Sought → Tree
sought_tree t (sought.Term u) = tree u.now
sought_tree t (sought.Symbol name) = symbol name.now
sought_tree t (sought.App f rs) = app f.0 (trees (terms_at t rs.now))

-- the ranks by which it is told are of the table
abbrev pub IsSought : Table → Sought → Type 0
IsSought t (sought.Term u) = ⊤
IsSought t (sought.Symbol name) = ⊤
IsSought t (sought.App f rs) = HasRanks t rs.now
