-- The substitution with what a syntactic pattern takes of a tree.
use Rattle.std.specs.Prelude.{Option, None, if◌then◌else◌}
use Rattle.mp_term.specs.Signature.{Sig}
use Rattle.mp_term.specs.Tree.{Tree, Trees}
use Rattle.mp_pattern.specs.PatternTree.{Pattern, Patterns}
use Rattle.mp_pattern.specs.Value.{Subst}
use Rattle.mp_theory.specs.Filled.{filled, all_filled}
use Rattle.mp_theory.specs.Shape.{shape, shapes}

module _ (sig : Sig) where
  -- what the pattern's variables take of the tree is bound too, where the tree has the pattern's shape
  abbrev pub taken : Pattern → Tree → Subst → Option Subst
  taken p t s = if shape p t then filled sig p t s else None

  -- the same for patterns on trees
  abbrev pub all_taken : Patterns → Trees → Subst → Option Subst
  all_taken ps ts s = if shapes ps ts then all_filled sig ps ts s else None
