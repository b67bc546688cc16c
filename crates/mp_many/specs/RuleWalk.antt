-- A walk over many rules.
use Rattle.std.specs.Prelude.{ℕ, Bool, List, [], Option, Some, None, refl}
use Rattle.std.specs.Coded.{Coded, code_by, coded×, coded_ℕ, coded_bool, coded_list, coded_option}
use Rattle.mp_pattern.specs.EntryCode.{coded_entry}
use Rattle.mp_pattern.specs.Fits as plain
use Rattle.mp_table.specs.Table.{Table}
use Rattle.mp_table.specs.TableCode.{coded_table}
use Rattle.mp_many.specs.Many.{Many}
use Rattle.mp_many.specs.ManyCode.{coded_many}
use Rattle.mp_many.specs.WalkItems.{each_with}

-- a rule's number and a take table
abbrev pub Item : Type 0
Item = ℕ × plain.Table

-- the rules, the table with the subject, the item at which the walk stands, if any, the items still to come, and that
-- memory ran out, after which nothing comes
pub record RuleWalk : Type 0 where
  pub many : Many
  pub table : Table
  pub item : Option Item
  pub to_come : List Item
  pub failed : Bool

-- rules that a leaf accepts, each with the table of the item at which a walk stands
abbrev pub given : List ℕ → Option Item → List Item
given ns None = []
given ns (Some i) = each_with ns i.1

-- the code of an item
abbrev pub coded_item : Coded Item
coded_item = coded× coded_ℕ (coded_list coded_entry)

-- the code of a walk
abbrev pub coded_walk : Coded RuleWalk
coded_walk =
    code_by (Many × (Table × (Option Item × (List Item × Bool))))
    (coded× coded_many
    (coded× coded_table (coded× (coded_option coded_item) (coded× (coded_list coded_item) coded_bool))))
    (λ w. (w.many, (w.table, (w.item, (w.to_come, w.failed)))))
    (λ p. record {
      many = p.0;
      table = p.1.0;
      item = p.1.1.0;
      to_come = p.1.1.1.0;
      failed = p.1.1.1.1;
    })
    (λ _. refl)
