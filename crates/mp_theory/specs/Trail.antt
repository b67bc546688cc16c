-- The search that binds as it goes: the trail is the substitution so far.
use Rattle.std.specs.Prelude.{◌≡◌, ℕ, zero, suc, Bool, false, ◌&&◌, List, [], ◌∷◌, ◌++◌, flat_map, Option, Some, None}
use Rattle.std.specs.Prelude.{if◌then◌else◌}
use Rattle.mp_term.specs.Order.{tree_cmp}
use Rattle.mp_term.specs.Tree.{Tree}
use Rattle.mp_term.specs.Signature.{Sig}
use Rattle.mp_pattern.specs.PatternTree.{Pattern}
use Rattle.mp_pattern.specs.Value.{Subst}
use Rattle.mp_pattern.specs.Variables.{comm_above}
use Rattle.mp_pattern.specs.Fits.{Entry, Table}
use Rattle.mp_theory.specs.Solve.{solve}
use Rattle.mp_theory.specs.Frames.{Next, child, settle, start}
use Rattle.mp_term.specs.Pieces.{is_piece}
use Rattle.mp_theory.specs.Machine.{is_ended, onward, said, takes, reads, choices}
use Rattle.mp_theory.specs.OneList.{Item}

-- what f gives of the value, if there is one
abbrev pub listed_by : {A B : Type 0} → (A → List B) → Option A → List B
listed_by f None = []
listed_by f (Some x) = f x

module _ (sig : Sig) where
  -- the substitutions that solve what k entries from a place on say, over the trail, table by table
  abbrev pub solutions : ℕ → Next → Subst → List Subst
  solutions zero n s = if is_ended n then s ∷ [] else []
  solutions (suc k) n s = flat_map (λ e. listed_by (λ r. solutions k (onward n e) r) (solve sig s (said n e)))
      (choices sig n)

  -- the same with the tables: the table so far and the entries that lead to a solution, with that
  abbrev pub derivations : ℕ → Next → Table → Subst → List Item
  derivations zero n T s = if is_ended n then (T, s) ∷ [] else []
  derivations (suc k) n T s =
      flat_map (λ e. listed_by (λ r. derivations k (onward n e) (T ++ e ∷ []) r) (solve sig s (said n e)))
      (choices sig n)

  -- those that go on with the entry
  abbrev pub derivations_by : ℕ → Next → Table → Subst → Entry → List Item
  derivations_by k n T s e = listed_by (λ r. derivations k (onward n e) (T ++ e ∷ []) r) (solve sig s (said n e))

  -- the entries lead to all that comes at the place
  abbrev pub LeadOn : Next → Subst → List Entry → Type 0
  LeadOn n s es = (k : ℕ) (T : Table) → flat_map (derivations_by k n T s) es ≡ derivations (suc k) n T s

  -- the entry may stand next: its list is a piece of what is left, and the node may have it
  abbrev pub allows : Next → Entry → Bool
  allows (child p f fs) e = is_piece tree_cmp (comm_above sig f.under) e.terms f.left && reads sig p f.under e
  allows _ e = false

  -- the test of a table, entry by entry from the place on
  abbrev pub has_shape : Next → Table → Bool
  has_shape n [] = is_ended n
  has_shape n (e ∷ T) = allows n e && has_shape (onward n e) T

  -- the substitution that the table fits with, if there is one: the table has the shape, and its takes are solved
  abbrev pub fitted : Pattern → Tree → Table → Option Subst
  fitted p t T = if has_shape (settle (start p t)) T then solve sig [] (takes (settle (start p t)) T) else None
