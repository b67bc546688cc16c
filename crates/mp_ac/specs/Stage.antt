-- What is still to come at a stage.
use Rattle.std.specs.Prelude.{⊤, Bool, true, false, List, []}
use Rattle.mp_term.specs.Listing.{In}
use Rattle.mp_pattern.specs.Fits.{Table}
use Rattle.mp_theory.specs.OneList.{Item, item_tables}
use Rattle.mp_search.specs.declared.mode.Mode.{Mode}
use Rattle.mp_search.specs.declared.mode.Mode.TheVariants.{First, After, At}
use Rattle.mp_search.specs.declared.stage.Stage.{Stage}
use Rattle.mp_search.specs.declared.stage.Stage.TheVariants.{Before, Standing, Ended}
use Rattle.mp_ac.specs.CommList.{behind_table}

-- the items that are still to come, where the table is that of the item at hand
abbrev pub ahead_at : Stage → Table → List Item → List Item
ahead_at Before W is = is
ahead_at Standing W is = behind_table W is
ahead_at Ended W is = []

-- those that are looked for: all, or those behind the one with the table
abbrev pub looked_for : Mode → Table → List Item → List Item
looked_for First W is = is
looked_for After W is = behind_table W is
looked_for At W is = is

-- one looks for the first item or for the next one
abbrev pub IsOnward : Mode → Type 0
IsOnward First = ⊤
IsOnward After = ⊤
IsOnward At = ⊥

-- where one stands at an item, it is one of these
abbrev pub IsAmong : Stage → Table → List Item → Type 0
IsAmong Before W is = ⊤
IsAmong Standing W is = In W (item_tables is)
IsAmong Ended W is = ⊤

-- the stage behind a search that found an item, or none
abbrev pub stage_after : Bool → Stage
stage_after true = Standing
stage_after false = Ended
