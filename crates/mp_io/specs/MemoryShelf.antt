-- What contracts see of a shelf in memory, and what its calls do.
use Rattle.std.specs.Prelude.{ℕ, ◌+◌, min, Bool, List, [], length, drop, Option, None, is_some, unwrap_or}
use Rattle.std.specs.Prelude.{if◌then◌else◌}
use Rattle.mp_io.specs.Devices.{Files, Text, count_faults, fails_at, held, saturating_add}

-- a shelf in memory: its files, the started one, and its counts
pub record ShelfState : Type 0 where
  pub files : Files
  pub is_started : Bool
  -- what is left of the started file, and how many bytes it has given; both empty where none is started
  pub rest : Text
  pub given : ℕ
  -- the calls of `start` and `read` so far, and the numbers of those that fail
  pub calls : ℕ
  pub fails : List ℕ
  -- the calls of `start` and those of `read` so far
  pub starts : ℕ
  pub reads : ℕ
  pub start_faults : ℕ
  pub read_faults : ℕ

-- the next call is one of those that fail
abbrev pub is_fault : ShelfState → Bool
is_fault s = fails_at s.fails s.calls

-- the bytes of the file that a start of this name finds
abbrev pub bytes_found : ShelfState → Text → Option Text
bytes_found s name = if is_fault s then None else held s.files name

-- after a start: what it found is started, with all its bytes left
abbrev pub after_start : ShelfState → Text → ShelfState
after_start s name = record s {
  is_started = is_some (bytes_found s name);
  rest = unwrap_or (bytes_found s name) [];
  given = 0;
  calls = saturating_add s.calls 1;
  starts = saturating_add s.starts 1;
  start_faults = count_faults (is_fault s) s.start_faults;
}

-- how many bytes a read into a room of this size gives: as many as there are, and as fit
abbrev pub count_given : ShelfState → ℕ → ℕ
count_given s size = if is_fault s then 0 else min (length s.rest) size

-- after a read: the rest has lost the bytes that it gave
abbrev pub after_read : ShelfState → ℕ → ShelfState
after_read s size = record s {
  rest = drop (count_given s size) s.rest;
  given = s.given + count_given s size;
  calls = saturating_add s.calls 1;
  reads = saturating_add s.reads 1;
  read_faults = count_faults (is_fault s) s.read_faults;
}
