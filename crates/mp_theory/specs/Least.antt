-- Whether a table is the least of its substitution, by a second search over the substitution.
use Rattle.std.specs.Prelude.{Bool, false, List, [], ◌∷◌}
use Rattle.std.specs.Ordering.{is_eq}
use Rattle.mp_term.specs.Signature.{Sig}
use Rattle.mp_term.specs.Tree.{Tree}
use Rattle.mp_pattern.specs.PatternTree.{Pattern}
use Rattle.mp_pattern.specs.Size.{pattern_nodes}
use Rattle.mp_pattern.specs.DerivationOrder.{table_cmp}
use Rattle.mp_theory.specs.Frames.{settle, start}
use Rattle.mp_theory.specs.Items.{items}
use Rattle.mp_theory.specs.OneList.{Item}

-- the first of the items has the item's table
abbrev pub is_headed_by : Item → List Item → Bool
is_headed_by i [] = false
is_headed_by i (j ∷ js) = is_eq (table_cmp i.0 j.0)

-- the search over the item's substitution finds its table first
abbrev pub is_least_item : Sig → Pattern → Tree → Item → Bool
is_least_item sig p t i = is_headed_by i (items sig (pattern_nodes p) (settle (start p t)) i.1)
