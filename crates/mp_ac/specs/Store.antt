-- What all searches over one table have in common.
use Rattle.std.specs.List.{AllByRecursion}
use Rattle.mp_table.specs.Table.{Table}
use Rattle.mp_ac.specs.declared.comm_plans.CommPlans.{CommPlans}
use Rattle.mp_ac.specs.declared.store.CommStore.{CommStore}
use Rattle.mp_ac.specs.Candidates.{AreFound}
use Rattle.mp_ac.specs.CommRoom.{IsOfTable}

-- what it has found are terms of the table that the children of the patterns may take, and its rooms are of the table
pub record IsStoreOf (t : Table) (x : CommPlans) (s : CommStore) : Type 0 where
  pub found : AreFound t x s.candidates
  pub rooms : AllByRecursion (IsOfTable t) s.rooms.items
