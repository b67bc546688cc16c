-- What the check of edits compares on its way, and which arguments and edits it passes over.
use Rattle.std.specs.Prelude.{◌≡◌, ◌<◌, ◌≤◌, ℕ, Bool, true, false, ◌&&◌, List, [], ◌∷◌, ◌++◌, length, nat_lt, nat_eq}
use Rattle.std.specs.Prelude.{find, bytes_eq}
use Rattle.std.specs.List.{starts_with, list_any}
use Rattle.mp_term.specs.declared.edit.Edit.{Edit}
use Rattle.mp_term.specs.EditFault.{above}

-- both edits stand below the same application, as arguments of it
abbrev pub is_sibling : Edit → Edit → Bool
is_sibling d e = (nat_lt 0 (length d.position) && nat_lt 0 (length e.position))
    && bytes_eq (above d.position) (above e.position)

-- the edit stands at the position or below it
abbrev pub is_within : List ℕ → Edit → Bool
is_within p e = starts_with nat_eq e.position p

module _ (es : List Edit) (p : List ℕ) where
  -- no edit stands at or below an argument of the application at p, from the i-th to before the j-th
  abbrev pub AreUntouched : ℕ → ℕ → Type 0
  AreUntouched i j = (k : ℕ) → i ≤ k → k < j → list_any (is_within (p ++ k ∷ [])) es ≡ false

  -- the k-th argument, from the i-th to before the j-th, is the first at or below which an edit may stand, and q is its
  -- position
  pub record IsNext (i j k : ℕ) (q : List ℕ) : Type 0 where
    pub low : i ≤ k
    pub high : k < j
    pub position : q ≡ p ++ k ∷ []
    pub untouched : AreUntouched i k

-- a test that only edits at the position or below it pass finds the same in both lists
abbrev pub FindsSame : List ℕ → List Edit → List Edit → Type 0
FindsSame p es ds =
    (test : Edit → Bool) → ((e : Edit) → test e ≡ true → is_within p e ≡ true) → find test ds ≡ find test es
