-- What a search tries at a node.
use Rattle.std.specs.Prelude.{Bool, List, [], ◌∷◌, if◌then◌else◌}
use Rattle.mp_pattern.specs.Fits.{Entry}
use Rattle.mp_theory.specs.Items.{above_entry}

-- the entry at hand and those above it, or none
abbrev pub to_try : Bool → Entry → List Entry → List Entry
to_try b e es = if b then e ∷ above_entry e es else []
