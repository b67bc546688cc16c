-- What the children of an operation take together, in whatever order they are looked at.
use Rattle.std.specs.Prelude.{◌≡◌, ◌≤◌, ◌&&◌, ℕ, Bool, true, false, not, List, length, Option, Some}
use Rattle.std.specs.List.{AllByRecursion}
use Rattle.mp_term.specs.Normal.{IsNormal}
use Rattle.mp_term.specs.Tree.{Tree}
use Rattle.mp_term.specs.Signature.{Sig}
use Rattle.mp_pattern.specs.PatternTree.{Wildcard, Patterns}
use Rattle.mp_pattern.specs.Fits.{Table, joined, arranged, some_left_out, AllTakeBy}
use Rattle.mp_theory.specs.Solve.{is_alone}

-- the terms may be the arguments of a normal application of g, in order; or it is one normal term, for which a
-- collapsed application stands
pub record AreArguments (sig : Sig) (g : ℕ) (args : List Tree) : Type 0 where
  pub normal : AllByRecursion (IsNormal sig) args
  pub alone : 2 ≤ length args → AllByRecursion (λ t. is_alone sig (Some g) t ≡ true) args
  pub ordered : arranged sig (Some g) args ≡ args

module _ (sig : Sig) (line : Option ℕ → Wildcard → Option (List ℕ) → List Tree → Type 0) where
  -- each child of g takes its list with its table, the lists together are the arguments, a child is left out where one
  -- must be, and the table has the entries below g; `line` says what a wildcard takes
  pub record ChildrenTake (g : ℕ) (ps : Patterns) (args : List Tree) (owes : Bool) (T : Table) : Type 0 where
    pub takes : List (List Tree)
    pub tables : List Table
    pub children : AllTakeBy sig line g ps takes tables
    pub together : arranged sig (Some g) (joined takes) ≡ args
    pub owed : (owes && not (some_left_out ps takes)) ≡ false
    pub table : T ≡ joined tables
