-- The first line of a text.
use Rattle.std.specs.Prelude.{◌≡◌, ◌∷◌, ◌++◌}
use Rattle.mp_io.specs.Devices.{Text}
use Rattle.mp_program.specs.FormText.{lines_of}

-- the text begins with the line and a line feed, and its other lines are those of the rest
pub record IsFirstLine (bytes line rest : Text) : Type 0 where
  pub parts : bytes ≡ line ++ 10 ∷ rest
  pub lines : lines_of bytes ≡ line ∷ lines_of rest
