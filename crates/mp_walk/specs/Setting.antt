-- What a walk may count on.
use Rattle.std.specs.Prelude.{IsSome}
use Rattle.std.specs.List.{AllByRecursion}
use Rattle.mp_term.specs.Normal.{IsNormal}
use Rattle.mp_table.specs.Table.{IsTable, rank_of}
use Rattle.mp_walk.specs.declared.setting.Setting.{Setting}
use Rattle.mp_walk.specs.Code.{IsCode}
use Rattle.mp_walk.specs.CodeConstants.{code_constants}
use Rattle.mp_walk.specs.Walkable.{IsWalkable}

-- the table of instructions may be walked, and has its plans; the terms of the table are normal, and it holds the
-- constants of the instructions
pub record IsSetting (x : Setting) : Type 0 where
  pub walkable : IsWalkable x.sig.now x.code.now.instrs
  pub plans : IsCode x.sig.now x.code.now
  pub table : IsTable x.table.now
  pub normal : AllByRecursion (IsNormal x.sig.now) x.table.now.terms
  pub held : AllByRecursion (λ u. IsSome (rank_of x.table.now u)) (code_constants x.code.now.instrs)
