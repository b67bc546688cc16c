-- A sink in memory, as its fields have it.
use Rattle.std.specs.Prelude.{◌≤◌, length, vec_capacity}
use Rattle.mp_io.specs.MemorySink.{SinkState}
use Rattle.mp_io.specs.declared.memory_sink.MemorySink.TheInside.{Inside}

-- what contracts see of the fields
abbrev pub sink_state : Inside → SinkState
sink_state s = record {
  content = s.bytes.items;
  room = s.room;
  writes = s.writes;
  fails = s.fails.items;
  faults = s.faults;
}

-- the bytes are within the room, and the room is reserved
pub record IsSink (s : Inside) : Type 0 where
  pub within : length s.bytes.items ≤ s.room
  pub reserved : s.room ≤ vec_capacity s.bytes
