-- A shelf in memory, as its fields have it.
use Rattle.std.specs.Prelude.{ℕ, ◌≤◌, List, [], map, drop, length, Option, Some, None, is_some, slice_get, string_bytes}
use Rattle.std.specs.Prelude.{⊤, IsSomeAnd}
use Rattle.std.specs.Option.{option_map, option_map_or}
use Rattle.mp_io.specs.Devices.{Files, Text}
use Rattle.mp_io.specs.MemoryShelf.{ShelfState}
use Rattle.mp_io.specs.declared.memory_shelf.HeldFile.{HeldFile}
use Rattle.mp_io.specs.declared.memory_shelf.Place.{Place}
use Rattle.mp_io.specs.declared.memory_shelf.MemoryShelf.TheInside.{Inside}

-- a file's name and its bytes
abbrev pub entry_of : HeldFile → Text × Text
entry_of file = (string_bytes file.name, file.bytes.items)

-- the files of a list
abbrev pub entries_of : List HeldFile → Files
entries_of files = map entry_of files

-- the bytes of the file at an index
abbrev pub bytes_at : List HeldFile → ℕ → Option Text
bytes_at files index = option_map (λ file. file.bytes.items) (slice_get files index)

-- what is left of the started file
abbrev pub rest_at : List HeldFile → Option Place → Text
rest_at files None = []
rest_at files (Some place) = option_map_or (λ file. drop place.at file.bytes.items) (slice_get files place.index) []

-- how many bytes the started file has given
abbrev pub given_at : Option Place → ℕ
given_at None = 0
given_at (Some place) = place.at

-- the place is within a file of the list
abbrev pub IsInPlace : List HeldFile → Option Place → Type 0
IsInPlace files None = ⊤
IsInPlace files (Some place) = IsSomeAnd (slice_get files place.index) (λ file. place.at ≤ length file.bytes.items)

-- what contracts see of the fields
abbrev pub shelf_state : Inside → ShelfState
shelf_state s = record {
  files = entries_of s.files.items;
  is_started = is_some s.started;
  rest = rest_at s.files.items s.started;
  given = given_at s.started;
  calls = s.calls;
  fails = s.fails.items;
  starts = s.starts;
  reads = s.reads;
  start_faults = s.start_faults;
  read_faults = s.read_faults;
}

-- the started place, if there is one, is within its file
abbrev pub IsShelf : Inside → Type 0
IsShelf s = IsInPlace s.files.items s.started
