-- The items that a search finds from a place on, and the choices that lead to them.
use Rattle.std.specs.Prelude.{◌≡◌, ℕ, zero, suc, List, [], ◌∷◌, ◌++◌, map, filter, flat_map, if◌then◌else◌}
use Rattle.std.specs.Ordering.{is_lt}
use Rattle.mp_term.specs.Signature.{Sig}
use Rattle.mp_pattern.specs.Value.{Subst}
use Rattle.mp_pattern.specs.Fits.{Entry, Table}
use Rattle.mp_pattern.specs.DerivationOrder.{entry_cmp}
use Rattle.mp_theory.specs.Solve.{solve}
use Rattle.mp_theory.specs.Frames.{Next}
use Rattle.mp_theory.specs.Machine.{is_ended, onward, said, choices}
use Rattle.mp_theory.specs.OneList.{Item}
use Rattle.mp_theory.specs.Trail.{listed_by}

-- the item with the entry in front of its table
abbrev pub behind : Entry → Item → Item
behind e i = (e ∷ i.0, i.1)

-- the item with the entries in front of its table
abbrev pub in_front : Table → Item → Item
in_front T i = (T ++ i.0, i.1)

-- the place after the entries
abbrev pub onward_all : Next → Table → Next
onward_all n [] = n
onward_all n (e ∷ T) = onward_all (onward n e) T

-- the entries above e
abbrev pub above_entry : Entry → List Entry → List Entry
above_entry e es = filter (λ d. is_lt (entry_cmp e d)) es

module _ (sig : Sig) where
  -- the tables of k entries from the place on that are solved over s, in order, each with what solves it
  abbrev pub items : ℕ → Next → Subst → List Item
  items zero n s = if is_ended n then ([], s) ∷ [] else []
  items (suc k) n s =
      flat_map (λ e. map (behind e) (listed_by (λ r. items k (onward n e) r) (solve sig s (said n e))))
      (choices sig n)

  -- those that go on with the entry
  abbrev pub items_by : ℕ → Next → Subst → Entry → List Item
  items_by k n s e = map (behind e) (listed_by (λ r. items k (onward n e) r) (solve sig s (said n e)))

  -- the entries es lead to the same items as the entries ds
  abbrev pub LeadsTo : Next → Subst → List Entry → List Entry → Type 0
  LeadsTo n s es ds = (k : ℕ) → flat_map (items_by k n s) es ≡ flat_map (items_by k n s) ds
