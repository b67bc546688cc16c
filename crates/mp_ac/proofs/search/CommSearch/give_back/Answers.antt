use Rattle.std.specs.Prelude.{OnOk, Ok, Err}
use Rattle.mp_table.specs.Table.{Table}
use Rattle.mp_ac.specs.CommRoom.{IsOfTable}
use Rattle.mp_ac.specs.Store.{IsStoreOf}
use Rattle.mp_ac.specs.declared.comm_plans.CommPlans.{CommPlans}
use Rattle.mp_ac.proofs.search.CommSearch.give_back.Goals as goal

pub returns : goal.returns
returns c =
    let t = c.args.self.table.now in
    let old = c.args.store.now in
    let new = c.put_room.new.self in
    elim c.put_room.result as (λ r. OnOk r ((t : Table) (x : CommPlans) → IsStoreOf t x old
    → IsOfTable t c.args.self.room → IsStoreOf t x new)
    → OnOk r ((x : CommPlans) → IsStoreOf t x old → IsStoreOf t x new)) [
      | Ok u ↦ λ h x s. h t x s c.requires.1.room.of_table
      | Err e ↦ λ h. h
    ] c.put_room.ensures
