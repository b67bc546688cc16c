-- What holds of the room of a search.
use Rattle.std.specs.Prelude.{◌≤◌, ◌+◌, ℕ, length}
use Rattle.std.specs.List.{AllByRecursion}
use Rattle.mp_table.specs.Table.{Table}
use Rattle.mp_search.specs.Levels.{AreLevels}
use Rattle.mp_ac.specs.declared.room.CommRoom.{CommRoom}

-- each pick and each level has room for as many ranks as the room is wide, and all ranks of levels are the table's
pub record IsOfTable (t : Table) (r : CommRoom) : Type 0 where
  pub picks : AllByRecursion (λ k. r.width ≤ k.rest.room) r.picks.items
  pub levels : AreLevels t r.width r.levels.items

-- there is room for so many children that take one term each, and nodes of the others, and at each for so many ranks
pub record IsRoomFor (t : Table) (c n w : ℕ) (r : CommRoom) : Type 0 where
  pub of_table : IsOfTable t r
  pub wide : w ≤ r.width
  pub children : c ≤ length r.picks.items
  pub nodes : n ≤ length r.levels.items
  pub grounds : n + 1 ≤ r.grounds.list.room
