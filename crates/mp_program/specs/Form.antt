-- What a program text says line by line, in one of its two formats.
use Rattle.std.specs.Prelude.{ℕ, List, Option}
use Rattle.mp_io.specs.Devices.{Text}
use Rattle.mp_pattern.specs.CondTree.{Cond}
use Rattle.mp_walk.specs.Instrs.{Instr}
use Rattle.mp_program.specs.declared.format.Format.{Format}
use Rattle.mp_program.specs.declared.format.Format.TheVariants.{One, Two}

-- the number of a format, by which the first line names it
abbrev pub format_number : Format → ℕ
format_number One = 1
format_number Two = 2

-- what a rule line says of a test: nothing; the number of a test line, in format 2; or the condition itself, in
-- format 1
pub data RuleTest : Type 0 where
  untested : RuleTest
  tested : ℕ → RuleTest
  spelled : Cond → RuleTest

-- a rule line: the rule's name, the names of its variables in order, and its test
pub record RuleLine : Type 0 where
  pub name : Text
  pub vars : List Text
  pub test : RuleTest

-- the lines that declare operations, those that declare kinds, the test lines, the rule lines, the first instruction,
-- where there is one, and the instructions
pub record Form : Type 0 where
  pub format : Format
  pub ops : List Text
  pub kinds : List Text
  pub tests : List Cond
  pub rules : List RuleLine
  pub begin : Option ℕ
  pub code : List Instr
