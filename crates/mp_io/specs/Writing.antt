-- What a writer that keeps its failure has done with the text that was put to it.
use Rattle.std.specs.Prelude.{◌≡◌, ◌++◌, Ok, Err, MatchBool, ⊤}
use Rattle.mp_io.specs.Devices.{Text}
use Rattle.mp_io.specs.Moments.{sunk}
use Rattle.mp_io.specs.declared.devices.Sink.{Ghosts as SinkWords}
use Rattle.mp_io.specs.Printing.{Prints}
use Rattle.mp_io.specs.declared.writer.Writer.{Writer}

-- since the sink was so, the text was put to the writer: a write of it failed, or it is printed but for the bytes that
-- are held back
abbrev pub HasPut : {K : Type 0} → SinkWords K → K → Text → Writer K → Type 0
HasPut words start text w =
    MatchBool w.failed (Prints {T = ⊤} {E = ⊤} (sunk words start w.sink.now) text (Err tt))
    ((front : Text) × (text ≡ front ++ w.room) × Prints {T = ⊤} {E = ⊤} (sunk words start w.sink.now) front (Ok tt))

-- the writer to the same sink is left with the text put behind whatever was put before
pub record Puts {K : Type 0} (words : SinkWords K) (old new : Writer K) (text : Text) : Type 0 where
  pub same : new.sink.ghost_name ≡ old.sink.ghost_name
  pub behind : (start : K) (before : Text) → HasPut words start before old → HasPut words start (before ++ text) new
