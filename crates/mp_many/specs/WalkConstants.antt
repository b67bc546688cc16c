-- The terms that the table of a walk gets beside those of its subject.
use Rattle.std.specs.Prelude.{List}
use Rattle.mp_term.specs.Tree.{Tree}
use Rattle.mp_walk.specs.CodeConstants.{AreCodeConstants}
use Rattle.mp_many.specs.Laid.{tree_of}
use Rattle.mp_many.specs.Many.{Many}

-- with them the tree may be walked on the table of any subject
abbrev pub AreWalkConstants : Many → List Tree → Type 0
AreWalkConstants m = AreCodeConstants m.sig (tree_of m.sig m.rules)
