-- What contracts see of a cursor.
use Rattle.std.specs.Prelude.{◌≡◌, List, [], ◌∷◌, filter, drop, slice_get, Option, Some, ⊤}
use Rattle.std.specs.Ordering.{is_lt}
use Rattle.mp_term.specs.Signature.{Sig}
use Rattle.mp_term.specs.Search.{In}
use Rattle.mp_pattern.specs.Admission.{Rule}
use Rattle.mp_pattern.specs.Fits as fits
use Rattle.mp_pattern.specs.DerivationOrder.{table_cmp}
use Rattle.mp_table.specs.Table.{Table}
use Rattle.mp_theory.specs.OneList.{Item}
use Rattle.mp_search.specs.Reading.{ReadsAs}
use Rattle.mp_token.specs.Entry.{Entry}

-- the signature, the rule and the table over which it goes; the item at which it stands, if it stands at one; and the
-- items still to come
pub record Listing : Type 0 where
  pub sig : Sig
  pub rule : Rule
  pub table : Table
  pub item : Option Item
  pub to_come : List Item

-- it goes over these
abbrev pub IsOver : Sig → Rule → Table → Listing → Type 0
IsOver sig rule table c = (c.sig ≡ sig) × (c.rule ≡ rule) × (c.table ≡ table)

-- one step on
abbrev pub advanced : Listing → Listing
advanced c = record c { item = slice_get c.to_come 0; to_come = drop 1 c.to_come }

-- the items of the list after a table, in the order of their tables
abbrev pub items_after : fits.Table → List Item → List Item
items_after W is = filter (λ j. is_lt (table_cmp W j.0)) is

-- the entries of a token stand for those of a take table
abbrev pub ReadAs : Table → List Entry → fits.Table → Type 0
ReadAs t [] [] = ⊤
ReadAs t (e ∷ es) (d ∷ ds) = ReadsAs t e d × ReadAs t es ds
ReadAs t _ _ = ⊥

-- the cursor stands at an item of the list whose table the entries are, and the items after it are still to come
pub record StandsAt (es : List Entry) (all : List Item) (c : Listing) : Type 0 where
  pub at : Item
  pub member : In at all
  pub table : ReadAs c.table es at.0
  pub item : c.item ≡ Some at
  pub to_come : c.to_come ≡ items_after at.0 all

-- the entries are the table of no item of the list
abbrev pub StandForNone : Table → List Entry → List Item → Type 0
StandForNone t es all = (i : Item) → In i all → ReadAs t es i.0 → ⊥
