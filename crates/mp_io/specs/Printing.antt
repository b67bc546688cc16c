-- What the answer of a call that writes a text means, and what stands between the items of a list.
use Rattle.std.specs.Prelude.{◌≡◌, ◌<◌, ◌++◌, ℕ, zero, suc, List, [], length, Option, Result, OnErr, OnOk}
use Rattle.std.specs.List.{flat_map}
use Rattle.std.specs.Borrow.{Bor}
use Rattle.std.specs.Io.KnownBytes.{Appends}
use Rattle.mp_io.specs.Devices.{HasCause, Text}
use Rattle.mp_io.specs.Moments.{Sunk}

-- told contents grow by a front of the text
pub record AppendsFront (old new : Option Text) (text : Text) : Type 0 where
  pub front : Text
  pub rest : Text
  pub split : text ≡ front ++ rest
  pub written : Appends old new front

-- told contents grow by a front of a text that has a byte
pub record IsCut (old new : Option Text) (text : Text) : Type 0 where
  pub front : AppendsFront old new text
  pub some : 0 < length text

-- at `Ok` the whole text was appended, and no write failed; at `Err` there was one, a front of it was appended, and the
-- count of faults rose
pub record Prints {T E : Type 0} (sink : Sunk) (text : Text) (result : Result T E) : Type 0 where
  pub whole : OnOk result (Appends sink.old sink.new text)
  pub front : OnErr result (IsCut sink.old sink.new text)
  pub cause : HasCause sink.faults sink.faults_after result

-- what stands before the item of an index: the separator, but nothing before the first
abbrev pub gap_text : Text → ℕ → Text
gap_text separator zero = []
gap_text separator (suc i) = separator

-- the parts, one after another
abbrev pub joined : List (Bor Text) → Text
joined parts = flat_map (λ (part : Bor Text). part.now) parts
