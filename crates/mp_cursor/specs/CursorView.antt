-- How a cursor is read, and what holds of each.
use Rattle.std.specs.Prelude.{◌≡◌, List, []}
use Rattle.mp_term.specs.Search.{In}
use Rattle.mp_pattern.specs.RuleView.{rule_tree}
use Rattle.mp_pattern.specs.View.{pattern_tree}
use Rattle.mp_theory.specs.OneList.{Item, item_list}
use Rattle.mp_cursor.specs.declared.cursor.Cursor.TheInside.{Inside}
use Rattle.mp_search.specs.Stage.{item_at}
use Rattle.mp_search.specs.declared.stage.Stage.{Stage}
use Rattle.mp_search.specs.declared.stage.Stage.TheVariants.{Before, Standing, Ended}
use Rattle.mp_table.specs.Table.{subject_of}
use Rattle.mp_cursor.specs.Listing.{Listing, items_after}
use Rattle.mp_cursor.specs.Matched.{IsMatched, IsDecidable, IsDecided}
use Rattle.mp_cursor.specs.Parts.{AreOver, item_of}

-- those that are still to come, of all of them
abbrev pub to_come_at : Stage → Item → List Item → List Item
to_come_at Before i all = all
to_come_at Standing i all = items_after i.0 all
to_come_at Ended i all = []

-- the items of the cursor's rule on the table's subject
abbrev pub items_of : Inside → List Item
items_of c = item_list c.matched.sig.now (rule_tree c.rule.now) (subject_of c.matched.table.now)

-- the cursor as plain data
abbrev pub cursor_view : Inside → Listing
cursor_view c = record {
  sig = c.matched.sig.now;
  rule = rule_tree c.rule.now;
  table = c.matched.table.now;
  item = item_at c.stage (item_of c.matched c.parts);
  to_come = to_come_at c.stage (item_of c.matched c.parts) (items_of c);
}

-- where it stands, it stands at an item
abbrev pub IsAtItem : Stage → Item → List Item → Type 0
IsAtItem Standing i all = In i all
IsAtItem _ i all = Unit {0}

-- what holds of each cursor
pub record IsCursor (c : Inside) : Type 0 where
  pub matched : IsMatched c.matched
  pub pattern : c.matched.plan.now.pattern ≡ pattern_tree c.rule.now.pattern
  pub condition : IsDecidable c.matched (rule_tree c.rule.now).condition
  pub over : AreOver c.matched c.parts
  pub decides : IsDecided c.matched c.decides_table
  pub standing : IsAtItem c.stage (item_of c.matched c.parts) (items_of c)
