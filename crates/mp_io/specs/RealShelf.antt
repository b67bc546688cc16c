-- What contracts see of the shelf of real files: nothing of their bytes, and its counts.
use Rattle.std.specs.Prelude.{ℕ, Bool}

-- whether a file is started, how many bytes it has given, and the calls and the faults so far
pub record RealShelfState : Type 0 where
  pub is_started : Bool
  pub given : ℕ
  pub starts : ℕ
  pub reads : ℕ
  pub start_faults : ℕ
  pub read_faults : ℕ
