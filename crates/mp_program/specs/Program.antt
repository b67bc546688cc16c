-- What contracts see of a match program.
use Rattle.std.specs.Prelude.{ℕ, List, Option}
use Rattle.mp_io.specs.Devices.{Text}
use Rattle.mp_pattern.specs.CondTree.{Cond}
use Rattle.mp_walk.specs.Instrs.{Instr}

-- a rule: its name, the names of its variables in order, and the number of its test, from 0, where it has one
pub record ProgramRule : Type 0 where
  pub name : Text
  pub vars : List Text
  pub test : Option ℕ

-- the rules; the tests, conditions on the variables v0, v1 and so on; and the instructions, numbered from 1
pub record Program : Type 0 where
  pub rules : List ProgramRule
  pub tests : List Cond
  pub code : List Instr
