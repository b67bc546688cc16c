-- The next rewriting step of a term: where, by which rule and with which substitution it is made, and what it comes to.
use Rattle.std.specs.Prelude.{◌≡◌, ◌<◌, ℕ, List, ◌∷◌, Contains, Some, slice_get}
use Rattle.std.specs.declared.cmp.Ordering.TheVariants.{Less}
use Rattle.std.specs.Ordering.{nat_cmp}
use Rattle.std.specs.Cmp.Lexicographic.{slice_cmp}
use Rattle.mp_term.specs.Tree.{Tree}
use Rattle.mp_term.specs.Positions.{subterm}
use Rattle.mp_term.specs.Signature.{Sig}
use Rattle.mp_pattern.specs.Value.{Subst}
use Rattle.mp_pattern.specs.Admission.{Rule, Admits}
use Rattle.mp_pattern.specs.Lists.{IsOneList}
use Rattle.mp_pattern.specs.Step.{Stepped, IsStepBy}

-- one position comes before another in preorder: a position before its extensions, and else by the first index that
-- differs
abbrev pub Precedes : List ℕ → List ℕ → Type 0
Precedes p q = slice_cmp nat_cmp p q ≡ Less

module _ (sig : Sig) where
  -- the rule admits something on the subterm at the position
  pub record Applies (r : Rule) (t : Tree) (position : List ℕ) : Type 0 where
    pub under : Tree
    pub there : subterm t position ≡ Some under
    pub subst : Subst
    pub admits : Admits sig r under subst

  module _ (rules : List Rule) (t : Tree) where
    -- some rule admits something on the subterm at the position
    abbrev pub IsLive : List ℕ → Type 0
    IsLive position = (r : Rule) × Contains rules r × Applies r t position

    -- no position is live
    abbrev pub IsDead : Type 0
    IsDead = (position : List ℕ) → IsLive position → ⊥

    -- the step at the first live position in preorder, by the least rule that admits something there, with the first
    -- substitution of its one-list there
    pub record IsStep (result : Stepped) : Type 0 where
      pub position : List ℕ
      pub first : (p : List ℕ) → Precedes p position → IsLive p → ⊥
      pub number : ℕ
      pub rule : Rule
      pub held : slice_get rules number ≡ Some rule
      pub least : (n : ℕ) (r : Rule) → n < number → slice_get rules n ≡ Some r → Applies r t position → ⊥
      pub under : Tree
      pub there : subterm t position ≡ Some under
      pub subst : Subst
      pub later : List Subst
      pub listed : IsOneList sig rule under (subst ∷ later)
      pub made : IsStepBy sig t position rule subst result
