-- What the whole command promises.
use Rattle.std.specs.Prelude.{◌≡◌, ◌⊎◌, ◌<◌, ◌≤◌, ◌+◌, ℕ, List, [], ◌∷◌, length, map, Option, Some, None}
use Rattle.std.specs.Prelude.{drop, string_bytes}
use Rattle.std.specs.Borrow.{Bor}
use Rattle.std.specs.Io.KnownBytes.{Appends, Keeps}
use Rattle.std.specs.declared.string.String.{String}
use Rattle.std.specs.Global.{Global}
use Rattle.mp_io.specs.Devices.{Files, IsMissing, Rose, Text, held}
use Rattle.mp_io.specs.Moments.{Shelved, Sunk}
use Rattle.mp_io.specs.Printing.{AppendsFront}
use Rattle.mp_words.specs.Words.{Request, request_of}
use Rattle.mp_command.specs.Messages.{long_line, memory_line, open_line, read_line, usage_line, write_line}
use Rattle.mp_command.specs.Outcome.{IsOutcome, Outcome, file_limit, program_limit}

-- ---- words and names

-- the bytes of the words
abbrev pub words_of : List (String Global) → List Text
words_of = map string_bytes

-- the words behind the program's name
abbrev pub words_behind : List (Bor Text) → List Text
words_behind all = drop 1 (map (λ word. word.now) all)

-- a file that is to be read: its name, and how many bytes it has at most
pub record Wanted : Type 0 where
  pub name : Text
  pub limit : ℕ

-- the program file, where one is named
abbrev pub wanted_program : Option Text → List Wanted
wanted_program None = []
wanted_program (Some name) = record { name = name; limit = program_limit } ∷ []

-- the files that a request names, in the order in which they are read
abbrev pub wanted_by : Option Request → List Wanted
wanted_by None = []
wanted_by (Some request) = record { name = request.file; limit = file_limit } ∷ wanted_program request.program

-- one of the files isn't held
abbrev pub IsSomeMissing : Files → List Wanted → Type 0
IsSomeMissing files [] = ⊥
IsSomeMissing files (w ∷ ws) = (held files w.name ≡ None) ⊎ IsSomeMissing files ws

-- the file is one of these, and those before it are held
abbrev pub IsTurnOf : Option Files → List Wanted → Wanted → Type 0
IsTurnOf files [] file = ⊥
IsTurnOf files (w ∷ ws) file = (w ≡ file) ⊎ ((IsMissing files w.name → ⊥) × IsTurnOf files ws file)

-- ---- statuses and lines

-- what a run answers
abbrev pub statuses : List ℕ
statuses = 0 ∷ 1 ∷ 2 ∷ 3 ∷ 4 ∷ 5 ∷ 6 ∷ 7 ∷ 8 ∷ 9 ∷ 10 ∷ 11 ∷ 12 ∷ []

-- a count of the shelf's faults rose
abbrev pub ShelfRose : Shelved → Type 0
ShelfRose shelf =
    Rose shelf.start_faults shelf.start_faults_after ⊎ Rose shelf.read_faults shelf.read_faults_after

-- a line for a fault of the shelf, whose count rose, at a file whose turn it was
abbrev pub IsFaultLine : List Wanted → Shelved → Text → Type 0
IsFaultLine wanted shelf line =
    (file : Wanted) × IsTurnOf shelf.files wanted file
    × (((line ≡ open_line file.name) × Rose shelf.start_faults shelf.start_faults_after)
    ⊎ ((line ≡ read_line file.name) × (IsMissing shelf.files file.name → ⊥)
    × Rose shelf.read_faults shelf.read_faults_after))

-- a file was refused by this line: one that was to be read now couldn't be opened, couldn't be read, or gave more bytes
-- than its limit
abbrev pub IsUnreadLine : List Wanted → Shelved → Text → Type 0
IsUnreadLine wanted shelf line =
    (file : Wanted) × IsTurnOf shelf.files wanted file
    × (((line ≡ open_line file.name)
    × (Rose shelf.start_faults shelf.start_faults_after ⊎ IsMissing shelf.files file.name))
    ⊎ ((line ≡ read_line file.name) × Rose shelf.read_faults shelf.read_faults_after)
    ⊎ ((line ≡ long_line file.name) × (file.limit < shelf.given_after)))

-- the line for a status that was answered
pub record IsLine (o : Outcome) (wanted : List Wanted) (shelf : Shelved) (status : ℕ) (line : Text) : Type 0 where
  pub write : status ≡ 5 → line ≡ write_line
  pub memory : status ≡ 8 → line ≡ memory_line
  pub unread : status ≡ 4 → ((o.status ≡ 4) × (line ≡ o.err)) ⊎ IsFaultLine wanted shelf line
  pub other : (status ≡ 5 → ⊥) → (status ≡ 8 → ⊥) → (status ≡ 4 → ⊥) → line ≡ o.err

-- the line went to the sink, or a front of it where the sink's count rose
pub record Says (err : Sunk) (line : Text) : Type 0 where
  pub whole : (Rose err.faults err.faults_after → ⊥) → Appends err.old err.new line
  pub front : AppendsFront err.old err.new line

-- ---- a run

-- a run over files that are told is as this outcome says
pub record Runs (o : Outcome) (wanted : List Wanted) (files : Files) (shelf : Shelved) (out err : Sunk)
    (status : ℕ) : Type 0 where
  -- status 4 comes only where the outcome has it, or at a fault of the shelf
  pub unread : status ≡ 4 → (o.status ≡ 4) ⊎ ((0 < length wanted) × ShelfRose shelf)
  -- and always, but for want of memory, where a file isn't held
  pub missing : IsSomeMissing files wanted → (status ≡ 4) ⊎ (status ≡ 8)
  -- without a fault and with memory, the outcome is met
  pub settled : (status ≡ 5 → ⊥) → (status ≡ 8 → ⊥) → (status ≡ 4 → ShelfRose shelf → ⊥)
      → (status ≡ o.status) × Appends out.old out.new o.out
  -- in any case a front of its text was written, and nothing at status 4
  pub front : AppendsFront out.old out.new o.out
  pub nothing : status ≡ 4 → Keeps out.old out.new
  -- a write that failed is told only where something was to be written and the count rose, and isn't tried again
  pub write : status ≡ 5 → (0 < length o.out) × Rose out.faults out.faults_after
  pub unfailed : (status ≡ 4 → ⊥) → (status ≡ 5 → ⊥) → (status ≡ 8 → ⊥) → out.faults_after ≡ out.faults
  -- what is said
  pub line : (text : Text) × IsLine o wanted shelf status text × Says err text

-- these words have an outcome over files that are told, and a run of them is as each outcome says that they have
pub record HasOutcome (words : List Text) (files : Files) (shelf : Shelved) (out err : Sunk) (status : ℕ) : Type 0 where
  pub outcome : (o : Outcome) × IsOutcome words files o
  pub runs : (o : Outcome) → IsOutcome words files o
      → Runs o (wanted_by (request_of words)) files shelf out err status

-- what is said at the statuses that files and words alone don't decide, and where all went well, whether or not the
-- shelf tells its files
pub record Tells (words : List Text) (shelf : Shelved) (out err : Sunk) (status : ℕ) : Type 0 where
  pub usage : status ≡ 2 → Says err usage_line
  pub unread : status ≡ 4
      → (line : Text) × IsUnreadLine (wanted_by (request_of words)) shelf line × Says err line
  pub write : status ≡ 5 → Rose out.faults out.faults_after × Says err write_line
  pub memory : status ≡ 8 → Says err memory_line
  pub done : status ≤ 1 → Keeps err.old err.new

-- in how many calls these files are read at most
abbrev pub reads_of : List Wanted → ℕ
reads_of [] = 0
reads_of (w ∷ ws) = w.limit + 2 + reads_of ws

-- no more files are started than these, and they are read in so many calls at most
pub record IsReadOnce (wanted : List Wanted) (shelf : Shelved) : Type 0 where
  pub starts : shelf.starts_after ≤ shelf.starts + length wanted
  pub reads : shelf.reads_after ≤ shelf.reads + reads_of wanted
