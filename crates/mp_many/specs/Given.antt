-- What the items of a walk give.
use Rattle.std.specs.Prelude.{◌≡◌, ◌↔◌, ℕ, true, List, Option, Some, slice_get}
use Rattle.mp_term.specs.Signature.{Sig}
use Rattle.mp_term.specs.Tree.{Tree}
use Rattle.mp_pattern.specs.Admission.{Rule, meets}
use Rattle.mp_pattern.specs.Fits.{Fits, Table}
use Rattle.mp_pattern.specs.Lists.{Pair}

module _ (sig : Sig) (rules : List Rule) (t : Tree) where
  -- the pair is that of the item: its table fits with the substitution, and the rule's condition holds of this
  pub record IsGivenBy (i : ℕ × Table) (p : Pair) : Type 0 where
    pub number : p.0 ≡ i.0
    pub rule : Rule
    pub numbered : slice_get rules i.0 ≡ Some rule
    pub fits : Fits sig rule.pattern t p.1 i.1
    pub condition : meets sig rule.condition p.1 ≡ true

  -- this is the pair of the item, where it has one
  abbrev pub IsPairOf : (ℕ × Table) → Option Pair → Type 0
  IsPairOf i o = (p : Pair) → IsGivenBy i p ↔ (o ≡ Some p)
