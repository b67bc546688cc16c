use Rattle.std.proofs.Common.{◌≡◌, ◌<◌, length, take, IfSome}
use Rattle.std.specs.Prelude.{option_and_then}
use Rattle.mp_io.specs.Devices.{held}
use Rattle.mp_io.specs.MemoryShelfView.{bytes_at, entries_of}
use Rattle.mp_io.proofs.memory_shelf.find_last.Given as goal

abbrev pub invariant-loop-i : goal.invariant-loop-i
invariant-loop-i l = record {
  bytes : held (entries_of (take l.i l.files)) l.name ≡ option_and_then (bytes_at l.files) l.found;
  within : IfSome l.found (λ i. i < length l.files);
}
