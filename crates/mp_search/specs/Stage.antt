-- Where a search stands at a stage, and what comes next.
use Rattle.std.specs.Prelude.{Option, Some, None}
use Rattle.mp_search.specs.declared.mode.Mode.{Mode}
use Rattle.mp_search.specs.declared.mode.Mode.TheVariants.{First, After}
use Rattle.mp_search.specs.declared.stage.Stage.{Stage}
use Rattle.mp_search.specs.declared.stage.Stage.TheVariants.{Before, Standing, Ended}

-- the item at which it stands, if it stands at one
abbrev pub item_at : {X : Type 0} → Stage → X → Option X
item_at Before i = None
item_at Standing i = Some i
item_at Ended i = None

-- what is looked for next, if there is anything to look for
abbrev pub mode_at : Stage → Option Mode
mode_at Before = Some First
mode_at Standing = Some After
mode_at Ended = None
