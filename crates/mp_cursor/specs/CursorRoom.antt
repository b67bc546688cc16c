-- What contracts see of the room of a cursor.
use Rattle.std.specs.Prelude.{ℕ}

-- for how many nodes, for how many variables, and for how many ranks at a node there is room
pub record CursorRoom : Type 0 where
  pub nodes : ℕ
  pub vars : ℕ
  pub width : ℕ
