-- What contracts see of the pairs that a walk has found.
use Rattle.std.specs.Prelude.{List, refl}
use Rattle.std.specs.Coded.{Coded, code_by, coded×, coded_list}
use Rattle.mp_pattern.specs.Lists.{Pair}
use Rattle.mp_table.specs.Table.{Table}
use Rattle.mp_table.specs.TableCode.{coded_table}
use Rattle.mp_subst.specs.Code.{coded_pair}

-- the table of their values, and the pairs that are kept
pub record Finds : Type 0 where
  pub table : Table
  pub pairs : List Pair

-- these as a pair that gives them back
abbrev pub coded_finds : Coded Finds
coded_finds = code_by (Table × List Pair) (coded× coded_table (coded_list coded_pair)) (λ f. (f.table, f.pairs))
    (λ p. record { table = p.0; pairs = p.1 }) (λ _. refl)
