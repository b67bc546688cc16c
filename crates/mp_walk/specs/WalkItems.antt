-- The items of a walk over a table of instructions: which instruction accepts, and by which take table.
use Rattle.std.specs.Prelude.{◌↔◌, ℕ, List}
use Rattle.mp_term.specs.Listing.{In}
use Rattle.mp_term.specs.Tree.{Tree}
use Rattle.mp_term.specs.Signature.{Sig}
use Rattle.mp_pattern.specs.Fits.{Table, Fits}
use Rattle.mp_pattern.specs.PatternTree.{Pattern}
use Rattle.mp_pattern.specs.Value.{Subst}
use Rattle.mp_ac.specs.CommItems.{NoneTwice}
use Rattle.mp_walk.specs.CodeForest.{code_forest}
use Rattle.mp_walk.specs.Forests.{lists}
use Rattle.mp_walk.specs.Instrs.{Instr}
use Rattle.mp_walk.specs.Walkable.{Path, StandsFor}

module _ (sig : Sig) (code : List Instr) (t : Tree) where
  -- the instruction of the number accepts, and its path stands for a pattern that the table fits with some substitution
  pub record IsLeafItem (i : ℕ × Table) : Type 0 where
    pub path : Path
    pub leaf : In {X = ℕ × Path} (i.0, path) (lists (code_forest code))
    pub pattern : Pattern
    pub stands : StandsFor sig path pattern
    pub subst : Subst
    pub fits : Fits sig pattern t subst i.1

  -- the items are exactly these, each once, in an order of their own
  pub record AreLeafItems (is : List (ℕ × Table)) : Type 0 where
    pub exactly : (i : ℕ × Table) → In i is ↔ IsLeafItem i
    pub once : NoneTwice is
