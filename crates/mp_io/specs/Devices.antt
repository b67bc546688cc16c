-- Files by name, what was read of one, and counts of calls and faults.
use Rattle.std.specs.Prelude.{◌≡◌, ℕ, ◌+◌, ◌-◌, ◌^◌, ◌==◌, ◌≤◌, ◌<◌, ◌++◌, min, Bool, List, [], ◌∷◌, length, Option}
use Rattle.std.specs.Prelude.{Some, None, Result, ⊤}
use Rattle.std.specs.Prelude.{OnErr, OnOk, IsSomeAnd, if◌then◌else◌}
use Rattle.std.specs.List.{list_any}
use Rattle.std.specs.Option.{option_or}
use Rattle.std.specs.Str.{bytes_eq}

-- the bytes of a name or of a file
abbrev pub Text : Type 0
Text = List ℕ

-- each file's name and its bytes; where a name stands twice, the later file counts
abbrev pub Files : Type 0
Files = List (Text × Text)

-- the bytes under a name, if a file has it
abbrev pub held : Files → Text → Option Text
held [] name = None
held (file ∷ later) name = option_or (held later name) (if bytes_eq file.0 name then Some file.1 else None)

-- the files are told, and none has the name
abbrev pub IsMissing : Option Files → Text → Type 0
IsMissing None name = ⊥
IsMissing (Some files) name = held files name ≡ None

-- where the files are told, the rest is told too, and the name's bytes are those read so far and then the rest
abbrev pub HasRead : Option Files → Text → Text → Option Text → Type 0
HasRead None name read rest = ⊤
HasRead (Some files) name read rest = IsSomeAnd rest (λ left. held files name ≡ Some (read ++ left))

-- where the files are told, these are the name's bytes
abbrev pub HoldsBytes : Option Files → Text → Text → Type 0
HoldsBytes None name bytes = ⊤
HoldsBytes (Some files) name bytes = held files name ≡ Some bytes

-- where the files are told, the name has more bytes than the limit
abbrev pub IsLonger : Option Files → Text → ℕ → Type 0
IsLonger None name limit = ⊤
IsLonger (Some files) name limit = IsSomeAnd (held files name) (λ bytes. limit < length bytes)

-- a count of 64 bits after it rises by so much: it stops at its greatest number
abbrev pub saturating_add : ℕ → ℕ → ℕ
saturating_add count more = min (count + more) (2 ^ 64 - 1)

-- a count rose in a call, or stands at its greatest number when the call ends
abbrev pub Rose : ℕ → ℕ → Type 0
Rose before after = saturating_add before 1 ≤ after

-- the count of faults doesn't fall; at `Ok` it stays, and an error comes only where it rose
pub record HasCause {T E : Type 0} (before after : ℕ) (result : Result T E) : Type 0 where
  pub later : before ≤ after
  pub stays : OnOk result (after ≡ before)
  pub failed : OnErr result (Rose before after)

-- the call of this number is one of those that fail
abbrev pub fails_at : List ℕ → ℕ → Bool
fails_at fails number = list_any (λ x. x == number) fails

-- a count of faults after a call that is a fault or isn't
abbrev pub count_faults : Bool → ℕ → ℕ
count_faults is_fault count = if is_fault then saturating_add count 1 else count
