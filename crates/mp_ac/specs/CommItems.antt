-- The items of a commutative node over a trail: the tables of the entries below it, each with the trail after it.
use Rattle.std.specs.Prelude.{◌≡◌, ◌↔◌, ⊤, ℕ, Bool, List, [], ◌∷◌, map, Option, Some, option_and_then}
use Rattle.std.specs.List.{AllByRecursion}
use Rattle.mp_term.specs.Listing.{In}
use Rattle.mp_term.specs.Tree.{Tree}
use Rattle.mp_term.specs.Signature.{Sig}
use Rattle.mp_pattern.specs.PatternTree.{app_pattern, Patterns}
use Rattle.mp_pattern.specs.Value.{IsFinal, Subst, value_of}
use Rattle.mp_pattern.specs.Variables.{IsSubstOf}
use Rattle.mp_pattern.specs.Fits.{Table, ByValue}
use Rattle.mp_theory.specs.Solve.{bind}
use Rattle.mp_theory.specs.OneList.{Item, item_tables}
use Rattle.mp_ac.specs.Children.{ChildrenTake}

-- the values of v are bound in turn over those of s
abbrev pub bind_all : Subst → Subst → Option Subst
bind_all s [] = Some s
bind_all s (b ∷ v) = option_and_then (λ r. bind_all r v) (bind s b.name b.value)

-- each variable has the same value, or none, in both
abbrev pub SameValues : Subst → Subst → Type 0
SameValues r s = (x : List ℕ) → value_of r x ≡ value_of s x

-- so it is with each of these
abbrev pub SameOn : List (List ℕ) → Subst → Subst → Type 0
SameOn xs r s = (x : List ℕ) → In x xs → value_of r x ≡ value_of s x

-- no item stands twice
abbrev pub NoneTwice : {X : Type 0} → List X → Type 0
NoneTwice [] = ⊤
NoneTwice (x ∷ xs) = (In x xs → ⊥) × NoneTwice xs

-- the values of a trail are final, and each variable has one
pub record IsTrail (sig : Sig) (s : Subst) : Type 0 where
  pub final : AllByRecursion (λ b. IsFinal sig b.value) s
  pub distinct : NoneTwice (map (λ b. b.name) s)

module _ (sig : Sig) (g : ℕ) (ps : Patterns) (args : List Tree) (owes : Bool) (s : Subst) where
  -- the table has the entries below g: with some values of the variables below g, in the forms that their occurrences
  -- there ask for, the children take the arguments; and the values merge with those of the trail s, which gives r
  pub record IsCommItem (T : Table) (r : Subst) : Type 0 where
    pub values : Subst
    pub are_values : IsSubstOf sig (app_pattern g ps) values
    pub children : ChildrenTake sig (ByValue sig values) g ps args owes T
    pub merged : bind_all s values ≡ Some r

  -- the items are exactly these tables, each once, with their trails
  pub record AreCommItems (is : List Item) : Type 0 where
    pub exactly : (T : Table) → In T (item_tables is) ↔ (r : Subst) × IsCommItem T r
    pub trails : AllByRecursion (λ i. (r : Subst) × IsCommItem i.0 r × SameValues i.1 r) is
    pub once : NoneTwice (item_tables is)
