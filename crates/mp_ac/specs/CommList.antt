-- The items of a commutative node in the order in which its matcher comes to them.
use Rattle.std.specs.Prelude.{◌≡◌, ⊤, ℕ, Bool, List, [], ◌∷◌, Some, if◌then◌else◌}
use Rattle.std.specs.Ordering.{is_eq}
use Rattle.mp_term.specs.Tree.{Tree}
use Rattle.mp_term.specs.Signature.{Sig}
use Rattle.mp_pattern.specs.DerivationOrder.{table_cmp}
use Rattle.mp_pattern.specs.Fits.{Table}
use Rattle.mp_pattern.specs.PatternTree.{Patterns}
use Rattle.mp_pattern.specs.Size.{all_pattern_nodes}
use Rattle.mp_pattern.specs.Value.{Subst}
use Rattle.mp_theory.specs.Frames.{Frame, settle}
use Rattle.mp_theory.specs.Items.{items}
use Rattle.mp_theory.specs.OneList.{Item}
use Rattle.mp_ac.specs.CommItems.{SameOn}

-- before the first child of g
abbrev pub below : ℕ → Patterns → List Tree → Bool → List Frame
below g ps args owes = record { under = Some g; children = ps; left = args; owes = owes } ∷ []

-- the items of g over s, where the children take the arguments together, and one must be left out where it is owed; in
-- an order of the matcher's own, of which nothing is said
unfoldable pub comm_list : Sig → ℕ → Patterns → List Tree → Bool → Subst → List Item
comm_list sig g ps args owes s = items sig (all_pattern_nodes ps) (settle (below g ps args owes)) s

-- the items that come behind the one with the table
abbrev pub behind_table : Table → List Item → List Item
behind_table W [] = []
behind_table W (i ∷ is) = if is_eq (table_cmp W i.0) then is else behind_table W is

-- the items have the same tables, and the same values of these variables
abbrev pub SameItems : List (List ℕ) → List Item → List Item → Type 0
SameItems xs [] [] = ⊤
SameItems xs (i ∷ is) (j ∷ js) = (i.0 ≡ j.0) × SameOn xs i.1 j.1 × SameItems xs is js
SameItems xs _ _ = ⊥
