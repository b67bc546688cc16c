-- What is printed of the pairs that a file's rules admit on its subjects: all of them, or so many.
use Rattle.std.specs.Prelude.{ℕ, List, map, Option}
use Rattle.mp_io.specs.Devices.{Text}
use Rattle.mp_pattern.specs.Admission.{Rule}
use Rattle.mp_pattern.specs.Lists.{IsAllList}
use Rattle.mp_text.specs.File.{FileTree}
use Rattle.mp_matches.specs.PairsListed.{IsPairsListed}

-- the names of rules
abbrev pub names_of : List Rule → List Text
names_of rules = map (λ r. r.name) rules

-- what is printed of the all-lists of a file
abbrev pub IsAllListed : FileTree → Option ℕ → Text → Type 0
IsAllListed file = IsPairsListed file (names_of file.rules) (IsAllList file.sig file.rules)
