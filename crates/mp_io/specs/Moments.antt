-- A sink and a shelf before and after a call.
use Rattle.std.specs.Prelude.{ℕ, Option}
use Rattle.mp_io.specs.Devices.{Files, Text}
use Rattle.mp_io.specs.declared.devices.Sink.{Ghosts as SinkWords}
use Rattle.mp_io.specs.declared.devices.Shelf.{Ghosts as ShelfWords}

-- a sink before and after: its bytes and its count of faults
pub record Sunk : Type 0 where
  pub old : Option Text
  pub new : Option Text
  pub faults : ℕ
  pub faults_after : ℕ

-- a sink at two moments, as its trait's words tell it
abbrev pub sunk : {K : Type 0} → SinkWords K → K → K → Sunk
sunk words old new = record {
  old = words.contents old;
  new = words.contents new;
  faults = words.faults old;
  faults_after = words.faults new;
}

-- a shelf before and after: its files, its counts, and how much of the started file was given
pub record Shelved : Type 0 where
  pub files : Option Files
  pub starts : ℕ
  pub starts_after : ℕ
  pub reads : ℕ
  pub reads_after : ℕ
  pub start_faults : ℕ
  pub start_faults_after : ℕ
  pub read_faults : ℕ
  pub read_faults_after : ℕ
  pub given_after : ℕ

-- a shelf at two moments, as its trait's words tell it
abbrev pub shelved : {S : Type 0} → ShelfWords S → S → S → Shelved
shelved words old new = record {
  files = words.files old;
  starts = words.starts old;
  starts_after = words.starts new;
  reads = words.reads old;
  reads_after = words.reads new;
  start_faults = words.start_faults old;
  start_faults_after = words.start_faults new;
  read_faults = words.read_faults old;
  read_faults_after = words.read_faults new;
  given_after = words.given new;
}
