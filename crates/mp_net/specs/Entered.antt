-- The states that are added behind those that there are.
use Rattle.std.specs.Prelude.{ℕ, List, [], ◌∷◌, ◌++◌, Option, Some, None}
use Rattle.mp_net.specs.declared.item.Item.{Item}
use Rattle.mp_net.specs.declared.turn.Turn.{Turn}
use Rattle.mp_net.specs.Items.{listed}

-- the list, where it isn't empty
abbrev pub unless_empty : List Item → List (List Item)
unless_empty [] = []
unless_empty (i ∷ is) = (i ∷ is) ∷ []

-- the rules of the states that a turn leads to
abbrev pub led : Turn → List (List Item)
led t = listed t.below.items ++ unless_empty t.behind.items

-- the number of a state of these rules, which there is where they aren't none
abbrev pub number_of : ℕ → List Item → Option ℕ
number_of q [] = None
number_of q (i ∷ is) = Some q
