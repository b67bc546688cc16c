-- Marks that are right of a term under rules.
use Rattle.std.specs.Prelude.{◌≡◌, List, None}
use Rattle.mp_term.specs.Tree.{Tree, symbol, app, Trees, no_trees, more_trees}
use Rattle.mp_term.specs.Signature.{Sig}
use Rattle.mp_pattern.specs.Admission.{Rule}
use Rattle.mp_rewrite.specs.Computed.{first_redex}
use Rattle.mp_rewrite.specs.Marks.{Mark, unknown, dead, inner, Marks, no_marks, more_marks}

module _ (sig : Sig) (rules : List Rule) where
  abbrev mutual
    -- a term that is marked dead has no redex, and the marks of arguments are right of the arguments
    pub IsKnown : Mark → Tree → Type 0
    IsKnown unknown t = Unit {0}
    IsKnown dead t = first_redex sig rules t ≡ None
    IsKnown (inner ms) (symbol n) = ⊥
    IsKnown (inner ms) (app f ts) = AreKnown ms ts

    -- there is a mark for each tree, and it is right of it
    pub AreKnown : Marks → Trees → Type 0
    AreKnown no_marks no_trees = Unit {0}
    AreKnown (more_marks m ms) (more_trees t ts) = IsKnown m t × AreKnown ms ts
    AreKnown no_marks (more_trees t ts) = ⊥
    AreKnown (more_marks m ms) no_trees = ⊥
