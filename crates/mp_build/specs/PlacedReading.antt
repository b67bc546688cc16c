-- The condition that bytes are alone, with its place, as a function over the reader's machine.
use Rattle.std.specs.Prelude.{ℕ, List, Result, Ok, Err}
use Rattle.mp_parser.specs.declared.fault.Fault.{Fault}
use Rattle.mp_parser.specs.declared.place.Place.{Place}
use Rattle.mp_parser.specs.Lexing.{first_token_place}
use Rattle.mp_parser.specs.Syntax.{Condition}
use Rattle.mp_syntax.specs.Reading.{condition_reading}
use Rattle.mp_build.specs.AloneCondition.{PlacedCondition}

-- the condition that is read, at this place
abbrev pub at_place : Place → Result Condition Fault → Result PlacedCondition Fault
at_place start (Ok c) = Ok (record { start = start; condition = c })
at_place start (Err f) = Err f

-- the condition of a text and the place of its first token, or its first fault
abbrev pub placed_reading : List ℕ → Result PlacedCondition Fault
placed_reading bytes = at_place (first_token_place bytes) (condition_reading bytes)
