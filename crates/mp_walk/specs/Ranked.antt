-- Pairs of a rule and a substitution, each with the table of its values.
use Rattle.std.specs.Prelude.{◌≡◌, List, map, refl}
use Rattle.std.specs.Coded.{Coded, code_by, coded×}
use Rattle.std.specs.List.{AllByRecursion}
use Rattle.std.specs.declared.cmp.Ordering.{Ordering}
use Rattle.mp_pattern.specs.Lists.{Pair}
use Rattle.mp_table.specs.Table.{Table}
use Rattle.mp_table.specs.TableCode.{coded_table}
use Rattle.mp_subst.specs.Code.{coded_pair}
use Rattle.mp_walk.specs.Found.{found_cmp}

-- the table, and the pair
pub record Ranked : Type 0 where
  pub table : Table
  pub pair : Pair

-- these as a pair that gives them back
abbrev pub coded_ranked : Coded Ranked
coded_ranked = code_by (Table × Pair) (coded× coded_table coded_pair) (λ r. (r.table, r.pair))
    (λ p. record { table = p.0; pair = p.1 }) (λ _. refl)

-- the pairs alone
abbrev pub pairs_of : List Ranked → List Pair
pairs_of = map (λ r. r.pair)

-- they compare by their pairs
abbrev pub ranked_cmp : Ranked → Ranked → Ordering
ranked_cmp p q = found_cmp p.pair q.pair

-- all have this table
abbrev pub AreOver : Table → List Ranked → Type 0
AreOver t = AllByRecursion (λ r. r.table ≡ t)
