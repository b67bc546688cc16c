-- What contracts see of a sink in memory, and what a write does.
use Rattle.std.specs.Prelude.{ℕ, ◌-◌, min, Bool, List, ◌++◌, length, take, if◌then◌else◌, nat_lt, nat_le, ◌&&◌, ◌||◌}
use Rattle.mp_io.specs.Devices.{Text, count_faults, fails_at, saturating_add}

-- a sink in memory: its bytes, its room, and its counts
pub record SinkState : Type 0 where
  pub content : Text
  -- how many bytes there may be
  pub room : ℕ
  -- the writes so far, and the numbers of those that fail
  pub writes : ℕ
  pub fails : List ℕ
  pub faults : ℕ

-- a write of this piece is a fault: the piece has bytes, and the write is one that fails or no room is left
abbrev pub is_write_fault : SinkState → Text → Bool
is_write_fault s piece = nat_lt 0 (length piece) && (fails_at s.fails s.writes || nat_le s.room (length s.content))

-- how many bytes of the piece a write takes: as many as there are, and as fit
abbrev pub count_taken : SinkState → Text → ℕ
count_taken s piece = if is_write_fault s piece then 0 else min (s.room - length s.content) (length piece)

-- after a write: the bytes that it took are appended
abbrev pub after_write : SinkState → Text → SinkState
after_write s piece = record s {
  content = s.content ++ take (count_taken s piece) piece;
  writes = saturating_add s.writes 1;
  faults = count_faults (is_write_fault s piece) s.faults;
}
