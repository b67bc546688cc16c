-- What a call that prints some of the matches answers.
use Rattle.std.specs.Prelude.{◌≡◌, ◌⊎◌, ◌<◌, IsSome, Bool, true, false, List, [], ◌∷◌, length, Option, Some, None}
use Rattle.std.specs.Prelude.{Result, Ok, Err}
use Rattle.std.specs.Io.KnownBytes.{Appends}
use Rattle.mp_io.specs.Devices.{Rose, Text}
use Rattle.mp_io.specs.Moments.{Sunk}
use Rattle.mp_io.specs.Printing.{AppendsFront}
use Rattle.mp_term.specs.Signature.{Sig}
use Rattle.mp_matches.specs.Left.{Left, printed}
use Rattle.mp_matches.specs.Match.{Match}
use Rattle.mp_matches.specs.Listed.{Listed, lines, misspelt, no_match}
use Rattle.mp_matches.specs.declared.fault.ListFault.{ListFault}
use Rattle.mp_matches.specs.declared.fault.ListFault.TheVariants as fault
use Rattle.mp_matches.specs.declared.stop.Stop.{Stop}
use Rattle.mp_matches.specs.declared.stop.Stop.TheVariants as stop

-- the text has a byte
abbrev pub has_some : Text → Bool
has_some [] = false
has_some (b ∷ text) = true

-- the text was written, and no write failed
abbrev pub IsWritten : Text → Sunk → Type 0
IsWritten text out = Appends out.old out.new text × (out.faults_after ≡ out.faults)

-- a front of the text was written, and a write of it failed
abbrev pub IsCutOff : Text → Sunk → Type 0
IsCutOff text out = AppendsFront out.old out.new text × Rose out.faults out.faults_after × (0 < length text)

-- All lines were printed, behind which so many may be, and whether there are any is told; or the last one says that
-- others follow; or a front of them was printed, since memory ran out or a write failed.
abbrev pub PrintsMatches : Text × Option Left → Sunk → Left → Result Bool Stop → Type 0
PrintsMatches p out left (Ok any) = IsWritten p.0 out × (p.1 ≡ Some left) × (any ≡ has_some p.0)
PrintsMatches p out left (Err stop.More) = IsWritten p.0 out × (p.1 ≡ None)
PrintsMatches p out left (Err stop.Memory) = AppendsFront out.old out.new p.0
PrintsMatches p out left (Err stop.CannotWrite) = IsCutOff p.0 out

-- the lines of matches, where there are some
abbrev pub printed_behind : Sig → Left → Option (List Match) → Text × Option Left
printed_behind sig left None = ([], None)
printed_behind sig left (Some ms) = printed sig left ms

-- the matches behind a token were printed so, or there are none with the token
abbrev pub PrintsBehind : Sig → Left → Option (List Match) → Sunk → Left → Result (Option Bool) Stop → Type 0
PrintsBehind sig before ms out left (Ok None) = (ms ≡ None) × IsWritten [] out
PrintsBehind sig before ms out left (Ok (Some any)) =
    IsSome ms × PrintsMatches (printed_behind sig before ms) out left (Ok any)
PrintsBehind sig before ms out left (Err e) =
    (IsSome ms ⊎ (e ≡ stop.Memory)) × PrintsMatches (printed_behind sig before ms) out left (Err e)

-- the lines of what is told
abbrev pub lines_of : Listed → Text
lines_of (lines text) = text
lines_of (misspelt at) = []
lines_of no_match = []

-- What is told is printed, and whether it has lines is answered, or it is answered. Or a front of it was printed, since
-- memory ran out or a write failed.
abbrev pub Lists : Listed → Sunk → Result Bool ListFault → Type 0
Lists l out (Ok any) = (l ≡ lines (lines_of l)) × IsWritten (lines_of l) out × (any ≡ has_some (lines_of l))
Lists l out (Err (fault.Spelling at)) = (l ≡ misspelt at) × IsWritten [] out
Lists l out (Err fault.NotAnItem) = (l ≡ no_match) × IsWritten [] out
Lists l out (Err fault.Memory) = AppendsFront out.old out.new (lines_of l)
Lists l out (Err fault.CannotWrite) = IsCutOff (lines_of l) out
