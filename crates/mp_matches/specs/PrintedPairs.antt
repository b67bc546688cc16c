-- What a call that prints lines of pairs answers, where others may come behind them.
use Rattle.std.specs.Prelude.{◌≡◌, ◌++◌, ◌<◌, Bool, true, length, Result, Ok, Err}
use Rattle.mp_io.specs.Devices.{Text}
use Rattle.mp_io.specs.Moments.{Sunk}
use Rattle.mp_io.specs.Printing.{AppendsFront}
use Rattle.mp_io.specs.Writing.{Puts}
use Rattle.mp_io.specs.declared.devices.Sink.{Ghosts as SinkWords}
use Rattle.mp_io.specs.declared.writer.Writer.{Writer}
use Rattle.mp_term.specs.declared.memory.Memory.{Memory}
use Rattle.mp_matches.specs.Printed.{has_some, IsCutOff, IsWritten}
use Rattle.mp_matches.specs.Put.{PutsFront}
use Rattle.mp_matches.specs.declared.stop.Stop.{Stop}
use Rattle.mp_matches.specs.declared.stop.Stop.TheVariants as stop
use Rattle.mp_matches.specs.declared.told.Told.{Told}
use Rattle.mp_matches.specs.declared.told.Told.TheVariants as told

-- The text was put up to the rest, and whether that has a byte is told; or all of it was put, and its last line says
-- that others follow.
abbrev pub PutsUpTo : {K : Type 0} → SinkWords K → Text → Text → Writer K → Writer K → Told → Type 0
PutsUpTo words text rest old new (told.All any) =
    (front : Text) × (text ≡ front ++ rest) × Puts words old new front × (any ≡ has_some front)
PutsUpTo words text rest old new told.More = Puts words old new text × (0 < length text)

-- the same where there is memory, and for want of it a front of the text was put
abbrev pub PutsWithMemory : {K : Type 0} → SinkWords K → Text → Text → Writer K → Writer K → Result Told Memory → Type 0
PutsWithMemory words text rest old new (Ok told) = PutsUpTo words text rest old new told
PutsWithMemory words text rest old new (Err memory) = PutsFront words old new text

-- The text was put up to the rest, and whether that has a byte is told; or all of it was put, and its last line says
-- that others follow; or a front of it was put, since memory ran out or a write has failed.
abbrev pub PutsOrStops : {K : Type 0} → SinkWords K → Text → Text → Writer K → Writer K → Result Bool Stop → Type 0
PutsOrStops words text rest old new (Ok any) = PutsUpTo words text rest old new (told.All any)
PutsOrStops words text rest old new (Err stop.More) = PutsUpTo words text rest old new told.More
PutsOrStops words text rest old new (Err stop.Memory) = PutsFront words old new text
PutsOrStops words text rest old new (Err stop.CannotWrite) = PutsFront words old new text × (new.failed ≡ true)

-- The text was printed up to the rest, and whether that has a byte is told; or all of it was printed, and its last line
-- says that others follow; or a front of it was, since memory ran out or a write failed.
abbrev pub PrintsUpTo : Text → Text → Sunk → Result Bool Stop → Type 0
PrintsUpTo text rest out (Ok any) =
    (front : Text) × (text ≡ front ++ rest) × IsWritten front out × (any ≡ has_some front)
PrintsUpTo text rest out (Err stop.More) = IsWritten text out × (0 < length text)
PrintsUpTo text rest out (Err stop.Memory) = AppendsFront out.old out.new text
PrintsUpTo text rest out (Err stop.CannotWrite) = IsCutOff text out
