-- Many rules, and the tables that a walk over them may read.
use Rattle.std.specs.Prelude.{List}
use Rattle.mp_term.specs.Signature.{Sig}
use Rattle.mp_table.specs.Table.{Table}
use Rattle.mp_pattern.specs.Admission.{Rule}
use Rattle.mp_walk.specs.CodeConstants.{IsCodeTable}
use Rattle.mp_many.specs.Laid.{tree_of}

-- the signature and the rules
pub record Many : Type 0 where
  pub sig : Sig
  pub rules : List Rule

-- a walk may read the table: the tree may be walked on it
abbrev pub IsWalkTable : Many → Table → Type 0
IsWalkTable m = IsCodeTable m.sig (tree_of m.sig m.rules)
