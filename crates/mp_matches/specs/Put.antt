-- What a call that puts some of the matches to a writer answers.
use Rattle.std.specs.Prelude.{◌≡◌, ◌<◌, ◌++◌, ⊤, Bool, true, length, Option, Some, None, Result, Ok, Err}
use Rattle.mp_io.specs.Devices.{Text}
use Rattle.mp_io.specs.Writing.{Puts}
use Rattle.mp_io.specs.declared.devices.Sink.{Ghosts as SinkWords}
use Rattle.mp_io.specs.declared.writer.Writer.{Writer}
use Rattle.mp_matches.specs.Left.{Left, text_before}
use Rattle.mp_matches.specs.Printed.{has_some}
use Rattle.mp_matches.specs.declared.stop.Stop.{Stop}
use Rattle.mp_matches.specs.declared.stop.Stop.TheVariants as stop

-- a front of the text was put
pub record PutsFront {K : Type 0} (words : SinkWords K) (old new : Writer K) (text : Text) : Type 0 where
  pub front : Text
  pub rest : Text
  pub split : text ≡ front ++ rest
  pub puts : Puts words old new front

-- All lines were put, behind which so many may be, and whether there are any is told; or the last one says that others
-- follow; or a front of them was put, since memory ran out or a write has failed.
abbrev pub PutsMatches : {K : Type 0} → SinkWords K → Text × Option Left → Writer K → Writer K → Left
    → Result Bool Stop → Type 0
PutsMatches words p old new left (Ok any) = Puts words old new p.0 × (p.1 ≡ Some left) × (any ≡ has_some p.0)
PutsMatches words p old new left (Err stop.More) = Puts words old new p.0 × (p.1 ≡ None)
PutsMatches words p old new left (Err stop.Memory) = PutsFront words old new p.0
PutsMatches words p old new left (Err stop.CannotWrite) = PutsFront words old new p.0 × (new.failed ≡ true)

-- A match before others was put, and then it goes on with the others; or it ended in it.
abbrev pub PutsOne : {K : Type 0} → SinkWords K → Text × Option Left → Text × Option Left → Writer K → Writer K → Left
    → Result ⊤ Stop → Type 0
PutsOne words p rest old new left (Ok u) =
    (text : Text) × (p ≡ text_before text rest) × Puts words old new text × (0 < length text)
PutsOne words p rest old new left (Err e) = PutsMatches words p old new left (Err e)
