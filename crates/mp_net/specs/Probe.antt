-- What is read of a subject.
use Rattle.std.specs.Prelude.{ℕ, ◌+◌, ◌-◌, ◌^◌, min}
use Rattle.mp_table.specs.Table.{Table}

-- the table of the subject, and how many of its nodes were read, as long as a `u64` holds the number
pub record Probe : Type 0 where
  pub table : Table
  pub reads : ℕ

-- so many more were read, up to the greatest number
abbrev pub more_reads : ℕ → ℕ → ℕ
more_reads reads more = min (reads + more) (2 ^ 64 - 1)
