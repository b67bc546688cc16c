-- The items of a walk over rules: the pairs of a rule's number and a take table that fits.
use Rattle.std.specs.Prelude.{◌≡◌, ◌↔◌, ℕ, true, List, map, flat_map, Some, slice_get}
use Rattle.mp_term.specs.Listing.{In}
use Rattle.mp_term.specs.Tree.{Tree}
use Rattle.mp_term.specs.Signature.{Sig}
use Rattle.mp_pattern.specs.Admission.{Rule}
use Rattle.mp_pattern.specs.Instance.{is_fully_named}
use Rattle.mp_pattern.specs.Value.{Subst}
use Rattle.mp_pattern.specs.Fits.{Table, Fits}
use Rattle.mp_theory.specs.NoOptional.{HasNoOptional}
use Rattle.mp_ac.specs.CommItems.{NoneTwice}
pub use Rattle.mp_walk.specs.Instrs.{accepts_at}
use Rattle.mp_walk.specs.Instrs.{Instr}

module _ (sig : Sig) (rules : List Rule) (t : Tree) where
  -- the table fits the rule of the number and the subject with some substitution, whatever the rule's condition says
  pub record IsWalkItem (i : ℕ × Table) : Type 0 where
    pub rule : Rule
    pub numbered : slice_get rules i.0 ≡ Some rule
    pub subst : Subst
    pub fits : Fits sig rule.pattern t subst i.1

  -- the items are exactly these, each once, in an order of their own
  pub record AreWalkItems (is : List (ℕ × Table)) : Type 0 where
    pub exactly : (i : ℕ × Table) → In i is ↔ IsWalkItem i
    pub once : NoneTwice is

  -- where each wildcard of a rule's pattern has a name and none is optional, no two items have that rule and fit with
  -- one substitution
  abbrev pub HaveOneTable : List (ℕ × Table) → Type 0
  HaveOneTable is =
      (n : ℕ) (r : Rule) (s : Subst) (T U : Table) → slice_get rules n ≡ Some r
      → is_fully_named r.pattern ≡ true → HasNoOptional r.pattern
      → In (n, T) is → Fits sig r.pattern t s T → In (n, U) is → Fits sig r.pattern t s U → T ≡ U

-- each of the rules with the table
abbrev pub each_with : List ℕ → Table → List (ℕ × Table)
each_with ns T = map (λ n. (n, T)) ns

-- the items of a walk over a table of instructions: each rule that a leaf accepts, with its take table
abbrev pub rule_items : List Instr → List (ℕ × Table) → List (ℕ × Table)
rule_items code is = flat_map (λ i. each_with (accepts_at code i.0) i.1) is
