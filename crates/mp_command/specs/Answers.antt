-- What an ending says: of an action over bytes, and of a run over a shelf.
use Rattle.std.specs.Prelude.{◌≡◌, ◌⊎◌, ◌<◌, ◌≤◌, ℕ, List, [], length, IfSome, Option, Result, Ok, Err, Vec, ⊤}
use Rattle.std.specs.Global.{Global}
use Rattle.std.specs.Io.KnownBytes.{Appends, Keeps}
use Rattle.mp_io.specs.Devices.{Files, HoldsBytes, IsLonger, IsMissing, Rose, Text}
use Rattle.mp_io.specs.Moments.{Shelved, Sunk}
use Rattle.mp_io.specs.Printing.{AppendsFront}
use Rattle.mp_command.specs.Endings.{line_of, status_of, told_line, told_status}
use Rattle.mp_command.specs.Messages.{long_line}
use Rattle.mp_command.specs.Outcome.{Outcome, written_before}
use Rattle.mp_command.specs.Run.{IsTurnOf, IsUnreadLine, Wanted}
use Rattle.mp_command.specs.declared.ending.Told.{Told}
use Rattle.mp_command.specs.declared.ending.Ending.{Ending}
use Rattle.mp_command.specs.declared.ending.Ending.TheVariants as ending

-- ---- an action

-- the ending is the outcome's, and its text was written without a failed write
pub record IsReached (o : Outcome) (out : Sunk) (told : Told) : Type 0 where
  pub status : told_status told ≡ o.status
  pub line : told_line told ≡ o.err
  pub text : Appends out.old out.new o.out
  pub stays : out.faults_after ≡ out.faults

-- an action over bytes or over a file, of which this is the outcome, ends so
abbrev pub Acts : Outcome → Sunk → Ending → Type 0
Acts o out (ending.Told t) = IsReached o out t
Acts o out ending.Memory = AppendsFront out.old out.new o.out
Acts o out ending.CannotWrite =
    AppendsFront out.old out.new o.out × Rose out.faults out.faults_after × (0 < length o.out)
Acts o out (ending.CannotOpen name) = ⊥
Acts o out (ending.CannotRead name) = ⊥

-- neither want of memory nor a write that failed
abbrev pub IsSettled : Ending → Type 0
IsSettled ending.Memory = ⊥
IsSettled ending.CannotWrite = ⊥
IsSettled _ = ⊤

-- at a write that failed the count rose
abbrev pub HasFailed : Ending → Sunk → Type 0
HasFailed ending.CannotWrite out = Rose out.faults out.faults_after
HasFailed _ out = ⊤

-- an action ends so, whichever of these outcomes it has, and it has one but for want of memory or a write that failed
pub record ActsAs (IsOne : Outcome → Type 0) (out : Sunk) (e : Ending) : Type 0 where
  pub each : (o : Outcome) → IsOne o → Acts o out e
  pub some : IsSettled e → (o : Outcome) × IsOne o
  pub failed : HasFailed e out

-- A part of an action was done: its text was written, and of the outcome `rest` is left; or the action ended in it.
abbrev pub GoesOn : Outcome → Outcome → Sunk → Result ⊤ Ending → Type 0
GoesOn o rest out (Ok u) =
    (text : Text) × (o ≡ written_before text rest) × Appends out.old out.new text × (out.faults_after ≡ out.faults)
GoesOn o rest out (Err e) = Acts o out e

-- ---- a file

-- the bytes of a `Vec`, where there is one
abbrev pub items_in : {E : Type 0} → Result (Vec ℕ Global) E → Result Text E
items_in (Ok v) = Ok v.items
items_in (Err e) = Err e

-- the loading of a file ends so
abbrev pub Loads : Text → ℕ → Shelved → Result Text Ending → Type 0
Loads name limit shelf (Ok bytes) = HoldsBytes shelf.files name bytes × (length bytes ≤ limit)
Loads name limit shelf (Err (ending.Told t)) =
    (told_status t ≡ 4) × (told_line t ≡ long_line name)
    × IsLonger shelf.files name limit × (limit < shelf.given_after)
Loads name limit shelf (Err ending.Memory) = ⊤
Loads name limit shelf (Err ending.CannotWrite) = ⊥
Loads name limit shelf (Err (ending.CannotOpen n)) =
    (n.now ≡ name) × (Rose shelf.start_faults shelf.start_faults_after ⊎ IsMissing shelf.files name)
Loads name limit shelf (Err (ending.CannotRead n)) =
    (n.now ≡ name) × (IsMissing shelf.files name → ⊥) × Rose shelf.read_faults shelf.read_faults_after

-- ---- a run

-- this is the outcome where a file can't be opened
abbrev pub IsUnopened : Text → Outcome → Type 0
IsUnopened line o = (o.status ≡ 4) × (line ≡ o.err) × (o.out ≡ [])

-- all outcomes are such, and there is one
pub record AreOnly (IsOne : Outcome → Type 0) (P : Outcome → Type 0) : Type 0 where
  pub each : (o : Outcome) → IsOne o → P o
  pub some : (o : Outcome) × IsOne o

-- the file of this name is one of these, and those before it are held
abbrev pub IsTurnAt : Option Files → List Wanted → Text → Type 0
IsTurnAt files wanted name = (file : Wanted) × IsTurnOf files wanted file × (file.name ≡ name)

-- a run, of which these files are read in turn, ends so, whichever of these outcomes it has over the files
abbrev pub Answers : List Wanted → (Files → Outcome → Type 0) → Shelved → Sunk → Ending → Type 0
Answers wanted Over shelf out (ending.Told t) =
    IfSome shelf.files (λ files. AreOnly (Over files) (λ o. IsReached o out t))
Answers wanted Over shelf out ending.Memory =
    IfSome shelf.files (λ files. (o : Outcome) → Over files o → AppendsFront out.old out.new o.out)
Answers wanted Over shelf out ending.CannotWrite =
    Rose out.faults out.faults_after
    × IfSome shelf.files (λ files. (o : Outcome) → Over files o
    → AppendsFront out.old out.new o.out × (0 < length o.out))
Answers wanted Over shelf out (ending.CannotOpen name) =
    Keeps out.old out.new × IsTurnAt shelf.files wanted name.now
    × (Rose shelf.start_faults shelf.start_faults_after
    ⊎ (IsMissing shelf.files name.now
    × IfSome shelf.files (λ files. AreOnly (Over files) (IsUnopened (line_of (ending.CannotOpen name))))))
Answers wanted Over shelf out (ending.CannotRead name) =
    Keeps out.old out.new × IsTurnAt shelf.files wanted name.now
    × (IsMissing shelf.files name.now → ⊥) × Rose shelf.read_faults shelf.read_faults_after

-- an ending with status 4 has its cause, whether or not the shelf tells its files
abbrev pub HasCauses : List Wanted → Shelved → Ending → Type 0
HasCauses wanted shelf e = status_of e ≡ 4 → IsUnreadLine wanted shelf (line_of e)

-- no count of faults fell
pub record IsLater (shelf : Shelved) : Type 0 where
  pub start_faults : shelf.start_faults ≤ shelf.start_faults_after
  pub read_faults : shelf.read_faults ≤ shelf.read_faults_after
