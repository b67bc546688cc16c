-- The numbers that a list of few holds.
use Rattle.std.specs.Prelude.{ℕ, List, [], ◌∷◌}
use Rattle.mp_walk.specs.declared.instr.Few.{Few}
use Rattle.mp_walk.specs.declared.instr.Few.TheVariants.{Empty, One, Many}

-- none, one, or those in the box
abbrev pub few_numbers : Few → List ℕ
few_numbers Empty = []
few_numbers (One n) = n ∷ []
few_numbers (Many b) = b.value.items
